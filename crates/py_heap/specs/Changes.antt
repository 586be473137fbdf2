-- Lists that grow and change in place.
-- Source: Python library reference, Built-in Types: Mutable Sequence Types, Mapping Types; freezing, counts: own rule (docs/RULES.md).
use Rattle.std.specs.Prelude.{ℕ, suc, ℤ, pos, negsuc, ◌/◌, ◌+◌, ◌-◌, ◌||◌, min, nat_lt, if◌then◌else◌, Bool, List, [], ◌∷◌, ◌++◌, length, slice_get, slice_set, insert, remove, Option, Some, None, Result, Ok, Err}
use Rattle.py_values.specs.declared.val.Val.{Val}
use Rattle.py_values.specs.declared.val.ValueStop.{ValueStop}
use Rattle.py_values.specs.declared.val.ValueStop.TheVariants.{Limit, Raised}
use Rattle.py_heap.specs.Heaps.{Made, Seen, row_of}
use Rattle.py_heap.specs.Members.{value_place, same_key, is_key}

-- the place in this heap of what a number stands for; what was frozen has none
abbrev pub own_number : ℕ → ℕ → ℕ → Option ℕ
own_number before count n = if nat_lt n before then None else (if nat_lt (n - before) count then Some (n - before) else None)

-- one item more passes a count
abbrev pub item_passes : Seen → List Val → Bool
item_passes s row = nat_lt 65535 (length row) || nat_lt 4194304 (s.frozen.items + s.own.items + 1)

-- a row of this heap, by its place in it, with a value behind its last one
abbrev pub appended_own : Seen → ℕ → Val → Result (Unit {0} × Made) ValueStop
appended_own s i v =
    if item_passes s (row_of s.own.rows i) then Err Limit
    else Ok (tt, record s.own { rows = slice_set s.own.rows i (row_of s.own.rows i ++ v ∷ []); items = s.own.items + 1 })

abbrev pub appended_at : Seen → Option ℕ → Val → Result (Unit {0} × Made) ValueStop
appended_at s None v = Err Raised
appended_at s (Some i) v = appended_own s i v

abbrev pub appended : Seen → ℕ → Val → Result (Unit {0} × Made) ValueStop
appended s n v = appended_at s (own_number (length s.frozen.rows) (length s.own.rows) n) v

-- ---- assignment to an index

-- Python's place of an index, counted from the end where it is negative
abbrev pub index_place : ℕ → ℤ → Option ℕ
index_place len (pos n) = if nat_lt n len then Some n else None
index_place len (negsuc n) = if nat_lt n len then Some (len - suc n) else None

abbrev pub row_set : Made → ℕ → List Val → Option ℕ → Val → Result (Unit {0} × Made) ValueStop
row_set m i row None v = Err Raised
row_set m i row (Some k) v = Ok (tt, record m { rows = slice_set m.rows i (slice_set row k v) })

abbrev pub item_set_at : Seen → Option ℕ → ℤ → Val → Result (Unit {0} × Made) ValueStop
item_set_at s None n v = Err Raised
item_set_at s (Some i) n v = row_set s.own i (row_of s.own.rows i) (index_place (length (row_of s.own.rows i)) n) v

-- `a[n] = v`, of a list
abbrev pub item_set : Seen → ℕ → ℤ → Val → Result (Unit {0} × Made) ValueStop
item_set s o n v = item_set_at s (own_number (length s.frozen.rows) (length s.own.rows) o) n v

-- one pair of a key and a value more passes a count
abbrev pub pair_passes : Seen → List Val → Bool
pair_passes s row = nat_lt 65535 (length row / 2) || nat_lt 4194304 (s.frozen.items + s.own.items + 1)

-- a key keeps its place, and a new one comes last
abbrev pub key_set_in : Seen → ℕ → List Val → Option ℕ → Val → Val → Result (Unit {0} × Made) ValueStop
key_set_in s i row (Some k) key v = row_set s.own i row (Some k) v
key_set_in s i row None key v =
    if pair_passes s row then Err Limit
    else Ok (tt, record s.own { rows = slice_set s.own.rows i (row ++ key ∷ v ∷ []); items = s.own.items + 1 })

abbrev pub key_set_at : Seen → Option ℕ → Val → Val → Result (Unit {0} × Made) ValueStop
key_set_at s None key v = Err Raised
key_set_at s (Some i) key v = key_set_in s i (row_of s.own.rows i) (value_place (same_key s key) 0 (row_of s.own.rows i)) key v

-- `d[key] = v`, of a dict
abbrev pub key_set : Seen → ℕ → Val → Val → Result (Unit {0} × Made) ValueStop
key_set s o key v = if is_key key then key_set_at s (own_number (length s.frozen.rows) (length s.own.rows) o) key v else Err Raised

-- ---- other changes to a row of this heap, by its place in it

-- so many items more pass a count
abbrev pub items_pass : Seen → List Val → ℕ → Bool
items_pass s row n = nat_lt 65536 (length row + n) || nat_lt 4194304 (s.frozen.items + s.own.items + n)

abbrev pub extended_own : Seen → ℕ → List Val → Result (Unit {0} × Made) ValueStop
extended_own s i xs =
    if items_pass s (row_of s.own.rows i) (length xs) then Err Limit
    else Ok (tt, record s.own { rows = slice_set s.own.rows i (row_of s.own.rows i ++ xs); items = s.own.items + length xs })

-- by how many items a row grows where another stands in its place
abbrev pub growth : List Val → List Val → ℕ
growth row xs = length xs - length row

abbrev pub replaced_own : Seen → ℕ → List Val → Result (Unit {0} × Made) ValueStop
replaced_own s i xs =
    if nat_lt 4194304 (s.frozen.items + s.own.items + growth (row_of s.own.rows i) xs) then Err Limit
    else Ok (tt, record s.own { rows = slice_set s.own.rows i xs; items = s.own.items + growth (row_of s.own.rows i) xs })

-- the place before which a value comes, counted from the end where the number is negative
abbrev pub insert_place : ℕ → ℤ → ℕ
insert_place len (pos n) = min n len
insert_place len (negsuc n) = len - suc n

abbrev pub inserted_own : Seen → ℕ → ℤ → Val → Result (Unit {0} × Made) ValueStop
inserted_own s i n v =
    if item_passes s (row_of s.own.rows i) then Err Limit
    else Ok (tt, record s.own { rows = slice_set s.own.rows i (insert (row_of s.own.rows i) (insert_place (length (row_of s.own.rows i)) n) v); items = s.own.items + 1 })

-- a row of this heap without the item at a place
abbrev pub taken_at : Made → ℕ → List Val → ℕ → Option Val → Result (Val × Made) ValueStop
taken_at m i row k None = Err Raised
taken_at m i row k (Some v) = Ok (v, record m { rows = slice_set m.rows i (remove row k) })

abbrev pub taken : Made → ℕ → List Val → Option ℕ → Result (Val × Made) ValueStop
taken m i row None = Err Raised
taken m i row (Some k) = taken_at m i row k (slice_get row k)
