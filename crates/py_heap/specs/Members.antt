-- What `in` asks.
-- Source: Python reference 6.10.2, Membership test operations; cost, and what may be a key: own rule (docs/RULES.md).
use Rattle.std.specs.Prelude.{ℕ, suc, ◌+◌, nat_eq, ◌||◌, Bool, true, false, if◌then◌else◌, List, [], ◌∷◌, Option, Some, None, ℤ, Result, Ok, Err}
use Rattle.std.specs.List.{starts_with}
use Rattle.std.specs.Ordering.{int_eq}
use Rattle.lists.specs.Texts.{text_eq}
use Rattle.py_values.specs.declared.val.Val.{Val}
use Rattle.py_values.specs.declared.val.Val.TheVariants as val
use Rattle.py_values.specs.declared.val.ValueStop.TheVariants.{Raised}
use Rattle.py_heap.specs.declared.equality.Pair.{Pair}
use Rattle.py_heap.specs.declared.equality.Pair.TheVariants.{Known, Numbers, Texts, Rows, Refused}
use Rattle.py_values.specs.declared.range.Span.{Span}
use Rattle.py_heap.specs.Heaps.{Seen, text_at, row_at}
use Rattle.py_values.specs.Numbers.{number_of}
use Rattle.py_heap.specs.Equality.{pair_of, equal}
use Rattle.py_values.specs.Ranges.{span_of, in_range}
use Rattle.py_values.specs.Runs.{Run, give, refuse, later, after}

-- ---- in a string: a part of it; bytes of UTF-8 are as good as characters here, since none begins inside another

abbrev pub has_part : List ℕ → List ℕ → Bool
has_part part [] = starts_with nat_eq [] part
has_part part (b ∷ bs) = starts_with nat_eq (b ∷ bs) part || has_part part bs

abbrev pub in_text : Seen → Val → List ℕ → Run Bool
in_text s (val.Str x) text = give (has_part (text_at s x.0) text)
in_text s _ text = refuse Raised

-- ---- in a list or tuple: an element equals it; each pair costs one

abbrev pub any_equal : (Val → Val → Run Bool) → Val → List Val → Run Bool
any_equal same a [] = give false
any_equal same a (x ∷ xs) = after (later 1 (same a x)) (λ e. if e then give true else any_equal same a xs)

-- ---- in a dict: a key is it; keys are integers, booleans, strings and things

abbrev pub is_key : Val → Bool
is_key (val.Bool b) = true
is_key (val.Int n) = true
is_key (val.Str x) = true
is_key (val.Hw h) = true
is_key _ = false

abbrev pub agrees : Seen → Pair → Bool
agrees s (Known b) = b
agrees s (Numbers m n) = int_eq m n
agrees s (Texts x y) = text_eq (text_at s x.0) (text_at s y.0)
agrees s (Rows x y) = false
agrees s Refused = false

abbrev pub same_key : Seen → Val → Val → Bool
same_key s a b = agrees s (pair_of a b)

-- the place of the value after the first name that passes, in a row of names and their values
abbrev pub value_place : (Val → Bool) → ℕ → List Val → Option ℕ
value_place p i [] = None
value_place p i (x ∷ []) = None
value_place p i (x ∷ v ∷ row) = if p x then Some (suc i) else value_place p (i + 2) row

abbrev pub is_there : Option ℕ → Bool
is_there None = false
is_there (Some i) = true

abbrev pub in_dict : Seen → Val → List Val → Run Bool
in_dict s k row = if is_key k then give (is_there (value_place (same_key s k) 0 row)) else refuse Raised

-- ---- in a range: an integer is an element

abbrev pub in_span : Option ℤ → Span → Run Bool
in_span None r = refuse Raised
in_span (Some n) r = give (in_range r n)

abbrev pub member : Seen → Val → Val → Run Bool
member s a (val.Str x) = in_text s a (text_at s x.0)
member s a (val.List o) = any_equal (equal s) a (row_at s o.0)
member s a (val.Tuple o) = any_equal (equal s) a (row_at s o.0)
member s a (val.Dict o) = in_dict s a (row_at s o.0)
member s a (val.Range o) = in_span (number_of a) (span_of (row_at s o.0))
member s a _ = refuse Raised
