-- Dicts: making them, and their methods.
-- Source: Python library reference, Built-in Types: Mapping Types; keys, counts, and lists in place of views: own rule (docs/RULES.md).
use Rattle.std.specs.Prelude.{ℕ, suc, ◌+◌, ◌/◌, ◌&&◌, ◌||◌, nat_lt, Bool, true, false, if◌then◌else◌, List, [], ◌∷◌, ◌++◌, length, slice_get, slice_set, Option, Some, None, Result, Ok, Err}
use Rattle.py_values.specs.declared.val.Val.{Val}
use Rattle.py_values.specs.declared.val.Val.TheVariants as val
use Rattle.py_values.specs.declared.val.ValueStop.{ValueStop}
use Rattle.py_values.specs.declared.val.ValueStop.TheVariants.{Limit, Raised}
use Rattle.py_heap.specs.declared.fresh.Fresh.TheVariants as fresh
use Rattle.py_heap.specs.Heaps.{Made, Seen, seen, row_at}
use Rattle.py_values.specs.Ranges.{span_of, is_empty_range}
use Rattle.py_heap.specs.Members.{value_place, same_key, is_key}
use Rattle.py_heap.specs.Places.{placed}
use Rattle.py_heap.specs.Objects.{value_at}

-- ---- a new dict of keys and values, one after the other

abbrev pub all_keys : List Val → Bool
all_keys [] = true
all_keys (k ∷ []) = true
all_keys (k ∷ v ∷ row) = is_key k && all_keys row

-- a key keeps its place, and a new one comes last
abbrev pub put_at : List Val → Option ℕ → Val → Val → List Val
put_at row None k v = row ++ k ∷ v ∷ []
put_at row (Some i) k v = slice_set row i v

abbrev pub put : Seen → List Val → Val → Val → List Val
put s row k v = put_at row (value_place (same_key s k) 0 row) k v

-- keys and values behind those of a row, from the first on
abbrev pub put_all : Seen → List Val → List Val → List Val
put_all s row [] = row
put_all s row (k ∷ []) = row
put_all s row (k ∷ v ∷ more) = put_all s (put s row k v) more

-- the items of a dict are its pairs
abbrev pub pairs_pass : Seen → ℕ → Bool
pairs_pass s n = nat_lt 65536 n || nat_lt 4194304 (s.frozen.items + s.own.items + n)

abbrev pub dict_row : Seen → List Val → Result (Val × Made) ValueStop
dict_row s row =
    if pairs_pass s (length row / 2) then Err Limit
    else Ok (val.Dict (record { 0 = length s.frozen.rows + length s.own.rows }), record s.own { rows = s.own.rows ++ row ∷ []; items = s.own.items + length row / 2 })

-- a later value of a key stands in the place of the earlier one
abbrev pub new_dict : Seen → List Val → Result (Val × Made) ValueStop
new_dict s pairs = if all_keys pairs then dict_row s (put_all s [] pairs) else Err Raised

abbrev pub dict_in : Seen → Option (List Val) → Result (Val × Made) ValueStop
dict_in s None = Err Raised
dict_in s (Some pairs) = new_dict s pairs

-- ---- `dict`

-- a pair is a list or tuple of two values
abbrev pub pair_row : Seen → Val → List Val
pair_row s (val.List o) = row_at s o.0
pair_row s (val.Tuple o) = row_at s o.0
pair_row s _ = []

abbrev pub two_of : List Val → Option (Val × Val)
two_of (k ∷ v ∷ []) = Some (k, v)
two_of _ = None

abbrev pub pair_before : Option (Val × Val) → Option (List Val) → Option (List Val)
pair_before None rest = None
pair_before (Some p) None = None
pair_before (Some p) (Some rest) = Some (p.0 ∷ p.1 ∷ rest)

-- the keys and values of pairs
abbrev pub unpaired : Seen → List Val → Option (List Val)
unpaired s [] = Some []
unpaired s (p ∷ ps) = pair_before (two_of (pair_row s p)) (unpaired s ps)

-- those of a dict are its own, and a range has no pairs but where it is empty
abbrev pub pairs_in : Seen → Val → Option (List Val)
pairs_in s (val.Dict o) = Some (row_at s o.0)
pairs_in s (val.List o) = unpaired s (row_at s o.0)
pairs_in s (val.Tuple o) = unpaired s (row_at s o.0)
pairs_in s (val.Range o) = if is_empty_range (span_of (row_at s o.0)) then Some [] else None
pairs_in s _ = None

abbrev pub dict_of : Seen → List Val → Result (Val × Made) ValueStop
dict_of s [] = new_dict s []
dict_of s (v ∷ []) = dict_in s (pairs_in s v)
dict_of s _ = Err Raised

-- ---- methods of a dict

-- the row of a dict that is the only argument
abbrev pub only_dict : Seen → List Val → Option (List Val)
only_dict s (val.Dict o ∷ []) = Some (row_at s o.0)
only_dict s _ = None

abbrev pub key_row : List Val → List Val
key_row [] = []
key_row (k ∷ []) = []
key_row (k ∷ v ∷ row) = k ∷ key_row row

abbrev pub value_row : List Val → List Val
value_row [] = []
value_row (k ∷ []) = []
value_row (k ∷ v ∷ row) = v ∷ value_row row

abbrev pub listed_in : Seen → (List Val → List Val) → Option (List Val) → Result (Val × Made) ValueStop
listed_in s f None = Err Raised
listed_in s f (Some row) = placed s (fresh.List (f row))

abbrev pub keys_of : Seen → List Val → Result (Val × Made) ValueStop
keys_of s args = listed_in s key_row (only_dict s args)

abbrev pub values_of : Seen → List Val → Result (Val × Made) ValueStop
values_of s args = listed_in s value_row (only_dict s args)

-- goes on with what was made
abbrev pub followed : {A B C : Type 0} → Result (A × C) ValueStop → (A → C → Result B ValueStop) → Result B ValueStop
followed (Err stop) f = Err stop
followed (Ok x) f = f x.0 x.1

-- each pair as a new tuple, behind those of a list
unfoldable pub tupled : Made → Made → List Val → List Val → Result (List Val × Made) ValueStop
tupled frozen own all [] = Ok (all, own)
tupled frozen own all (k ∷ []) = Ok (all, own)
tupled frozen own all (k ∷ v ∷ row) = followed (placed (seen frozen own) (fresh.Tuple (k ∷ v ∷ []))) (λ t made. tupled frozen made (all ++ t ∷ []) row)

abbrev pub items_in : Seen → Option (List Val) → Result (Val × Made) ValueStop
items_in s None = Err Raised
items_in s (Some row) = followed (tupled s.frozen s.own [] row) (λ all made. placed (seen s.frozen made) (fresh.List all))

abbrev pub items_of : Seen → List Val → Result (Val × Made) ValueStop
items_of s args = items_in s (only_dict s args)

-- ---- `get`

abbrev pub value_or : Val → Option Val → Val
value_or default None = default
value_or default (Some v) = v

abbrev pub got_or : Seen → Val → Val → Val → Result (Val × Made) ValueStop
got_or s (val.Dict o) k default =
    if is_key k then Ok (value_or default (value_at (row_at s o.0) (value_place (same_key s k) 0 (row_at s o.0))), s.own) else Err Raised
got_or s _ k default = Err Raised

abbrev pub get_of : Seen → List Val → Result (Val × Made) ValueStop
get_of s (d ∷ k ∷ []) = got_or s d k val.None
get_of s (d ∷ k ∷ default ∷ []) = got_or s d k default
get_of s _ = Err Raised
