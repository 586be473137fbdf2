-- An index, a slice, and an assignment to an index.
-- Source: Python reference 6.3.2, Subscriptions, 6.3.3, Slicings; library reference, Common Sequence Operations.
use Rattle.std.specs.Prelude.{ℕ, suc, if◌then◌else◌, ℤ, pos, negsuc, ◌-ℤ◌, List, [], ◌∷◌, length, slice_get, filter_map, Option, Some, None, Result, Ok, Err, encode_utf8, encode_utf8_all}
use Rattle.std.specs.Str.{chars}
use Rattle.std.specs.Option.{option_map, option_and_then}
use Rattle.std.specs.Int.{int_min, int_max}
use Rattle.py_values.specs.declared.val.Val.{Val}
use Rattle.py_values.specs.declared.val.Val.TheVariants as val
use Rattle.py_values.specs.declared.val.ValueStop.{ValueStop}
use Rattle.py_values.specs.declared.val.ValueStop.TheVariants.{Raised}
use Rattle.py_values.specs.declared.range.Span.{Span}
use Rattle.py_builtins.specs.declared.slices.Cut.{Cut}
use Rattle.py_heap.specs.declared.fresh.Fresh.{Fresh}
use Rattle.py_heap.specs.declared.fresh.Fresh.TheVariants as fresh
use Rattle.py_heap.specs.Heaps.{Made, Seen, text_at, row_at}
use Rattle.py_values.specs.Numbers.{number_of, is_zero}
use Rattle.py_values.specs.Ranges.{span_of}
use Rattle.py_operators.specs.Spans.{span_numbers, span_item}
use Rattle.py_heap.specs.Members.{is_key, same_key, value_place}
use Rattle.py_heap.specs.Changes.{index_place, item_set, key_set}
use Rattle.py_values.specs.Runs.{given}
use Rattle.py_builtins.specs.Sequences.{onward}

-- ---- `a[i]`

-- the item at an index, counted from the end where it is negative
abbrev pub item_of : {A : Type 0} → List A → ℤ → Option A
item_of xs n = option_and_then (slice_get xs) (index_place (length xs) n)

abbrev pub value_shown : Option Val → Result Fresh ValueStop
value_shown None = Err Raised
value_shown (Some v) = Ok (fresh.Val v)

-- a string of one character
abbrev pub character_shown : Option ℕ → Result Fresh ValueStop
character_shown None = Err Raised
character_shown (Some c) = Ok (fresh.Text (encode_utf8 c))

-- the value of a key; what can be no key raises
abbrev pub key_item : Seen → Val → List Val → Option Val
key_item s k row = if is_key k then option_and_then (slice_get row) (value_place (same_key s k) 0 row) else None

abbrev pub indexed : Seen → Val → Val → Result Fresh ValueStop
indexed s (val.Str x) i = character_shown (option_and_then (item_of (chars (text_at s x.0))) (number_of i))
indexed s (val.List o) i = value_shown (option_and_then (item_of (row_at s o.0)) (number_of i))
indexed s (val.Tuple o) i = value_shown (option_and_then (item_of (row_at s o.0)) (number_of i))
indexed s (val.Dict o) k = value_shown (key_item s k (row_at s o.0))
indexed s (val.Range o) i = value_shown (option_map val.Int (option_and_then (span_item (span_of (row_at s o.0))) (number_of i)))
indexed s _ i = Err Raised

abbrev pub index_of : Seen → List Val → Result Fresh ValueStop
index_of s (a ∷ i ∷ []) = indexed s a i
index_of s _ = Err Raised

-- ---- `a[i:j:k]`

-- a part is a number, or None where it is absent
abbrev pub part_of : Val → Option (Option ℤ)
part_of val.None = Some None
part_of v = option_map Some (number_of v)

-- a step that is absent is 1, and 0 is none
abbrev pub step_of : Option ℤ → Option ℤ
step_of None = Some (pos 1)
step_of (Some n) = if is_zero n then None else Some n

abbrev pub cut_between : Option (Option ℤ) → Option (Option ℤ) → Option ℤ → Option Cut
cut_between (Some i) (Some j) (Some step) = Some (record { start = i; stop = j; step = step })
cut_between (Some i) (Some j) None = None
cut_between (Some i) None k = None
cut_between None j k = None

abbrev pub cut_of : Val → Val → Val → Option Cut
cut_of i j k = cut_between (part_of i) (part_of j) (option_and_then step_of (part_of k))

-- the places that a part may name, by the way of the step: before the first one, up to behind the last one
abbrev pub low_place : ℤ → ℤ
low_place (pos k) = pos 0
low_place (negsuc k) = negsuc 0

abbrev pub high_place : ℕ → ℤ → ℤ
high_place len (pos k) = pos len
high_place len (negsuc k) = pos len -ℤ pos 1

-- a part counts from the end where it is negative; one that names no place names the nearest
abbrev pub part_place : ℕ → ℤ → ℤ → ℤ
part_place len step (pos n) = int_min (pos n) (high_place len step)
part_place len step (negsuc n) = int_max (pos len -ℤ pos (suc n)) (low_place step)

abbrev pub part_or : ℤ → ℕ → ℤ → Option ℤ → ℤ
part_or absent len step None = absent
part_or absent len step (Some n) = part_place len step n

-- without its parts a slice goes over all places, from the end where the step is negative
abbrev pub first_place : ℕ → ℤ → ℤ
first_place len (pos k) = low_place (pos k)
first_place len (negsuc k) = high_place len (negsuc k)

abbrev pub last_place : ℕ → ℤ → ℤ
last_place len (pos k) = high_place len (pos k)
last_place len (negsuc k) = low_place (negsuc k)

-- the places of a slice are a range
abbrev pub cut_span : ℕ → Cut → Span
cut_span len c = record {
  start = part_or (first_place len c.step) len c.step c.start;
  stop = part_or (last_place len c.step) len c.step c.stop;
  step = c.step;
}

abbrev pub item_at : {A : Type 0} → List A → ℤ → Option A
item_at xs (pos n) = slice_get xs n
item_at xs (negsuc n) = None

-- the items at these places
abbrev pub picked : {A : Type 0} → List A → List ℤ → List A
picked xs places = filter_map (item_at xs) places

abbrev pub cut_items : {A : Type 0} → List A → Cut → List A
cut_items xs c = picked xs (span_numbers (cut_span (length xs) c))

abbrev pub cut_from : Seen → Val → Cut → Result Fresh ValueStop
cut_from s (val.Str x) c = Ok (fresh.Text (encode_utf8_all (cut_items (chars (text_at s x.0)) c)))
cut_from s (val.List o) c = Ok (fresh.List (cut_items (row_at s o.0) c))
cut_from s (val.Tuple o) c = Ok (fresh.Tuple (cut_items (row_at s o.0) c))
cut_from s _ c = Err Raised

abbrev pub slice_of : Seen → List Val → Result Fresh ValueStop
slice_of s (a ∷ i ∷ j ∷ k ∷ []) = onward (given (cut_of i j k)) (cut_from s a)
slice_of s _ = Err Raised

-- ---- `a[i] = v`

-- a change gives None
abbrev pub none_given : Result (Unit {0}) ValueStop → Result Val ValueStop
none_given (Ok x) = Ok val.None
none_given (Err stop) = Err stop

-- the same, with what the heap became
abbrev pub nothing_given : Result (Unit {0} × Made) ValueStop → Result (Val × Made) ValueStop
nothing_given (Ok x) = Ok (val.None, x.1)
nothing_given (Err stop) = Err stop

abbrev pub item_put : Seen → ℕ → Option ℤ → Val → Result (Unit {0} × Made) ValueStop
item_put s o None v = Err Raised
item_put s o (Some n) v = item_set s o n v

abbrev pub index_set : Seen → List Val → Result (Val × Made) ValueStop
index_set s (val.List o ∷ i ∷ v ∷ []) = nothing_given (item_put s o.0 (number_of i) v)
index_set s (val.Dict o ∷ k ∷ v ∷ []) = nothing_given (key_set s o.0 k v)
index_set s _ = Err Raised
