-- What a builtin goes over: its elements, one of them, and how many there are.
-- Source: Python library reference, Built-in Types: Iterator Types; strings have none, and the limit: own rule (docs/RULES.md).
use Rattle.std.specs.Prelude.{ℕ, ◌/◌, ◌==◌, nat_lt, Bool, false, if◌then◌else◌, List, [], ◌∷◌, length, map, slice_get, Option, Some, None, Result, Ok, Err}
use Rattle.std.specs.Str.{chars}
use Rattle.std.specs.Option.{option_map}
use Rattle.py_values.specs.declared.val.Val.{Val}
use Rattle.py_values.specs.declared.val.Val.TheVariants as val
use Rattle.py_values.specs.declared.val.ValueStop.{ValueStop}
use Rattle.py_values.specs.declared.val.ValueStop.TheVariants.{Limit, Raised}
use Rattle.py_values.specs.declared.range.Span.{Span}
use Rattle.py_heap.specs.Heaps.{Seen, text_at, row_at}
use Rattle.py_values.specs.Ranges.{span_of}
use Rattle.py_operators.specs.Spans.{span_count, span_element, span_numbers}

-- the keys in the row of a dict, where each has its value behind it
abbrev pub keys_in : List Val → List Val
keys_in [] = []
keys_in (k ∷ []) = []
keys_in (k ∷ v ∷ row) = k ∷ keys_in row

-- a range stands for the list of its elements, unless there are more than 65,536
abbrev pub span_listed : Span → Result (List Val) ValueStop
span_listed r = if nat_lt 65536 (span_count r) then Err Limit else Ok (map val.Int (span_numbers r))

-- the elements of a list or tuple are its items, and those of a dict its keys; strings and things have none
abbrev pub elements : Seen → Val → Result (List Val) ValueStop
elements s (val.List o) = Ok (row_at s o.0)
elements s (val.Tuple o) = Ok (row_at s o.0)
elements s (val.Dict o) = Ok (keys_in (row_at s o.0))
elements s (val.Range o) = span_listed (span_of (row_at s o.0))
elements s _ = Err Raised

-- one element, by its number; there is none past the last one
abbrev pub element : Seen → Val → ℕ → Option Val
element s (val.List o) i = slice_get (row_at s o.0) i
element s (val.Tuple o) i = slice_get (row_at s o.0) i
element s (val.Dict o) i = slice_get (keys_in (row_at s o.0)) i
element s (val.Range o) i = option_map val.Int (span_element (span_of (row_at s o.0)) i)
element s _ i = None

-- how many elements there are, where they may stand in a list
abbrev pub span_sized : Span → Result ℕ ValueStop
span_sized r = if nat_lt 65536 (span_count r) then Err Limit else Ok (span_count r)

abbrev pub sized : Seen → Val → Result ℕ ValueStop
sized s (val.List o) = Ok (length (row_at s o.0))
sized s (val.Tuple o) = Ok (length (row_at s o.0))
sized s (val.Dict o) = Ok (length (row_at s o.0) / 2)
sized s (val.Range o) = span_sized (span_of (row_at s o.0))
sized s _ = Err Raised

-- the number that `len` tells: a string is counted by its characters
abbrev pub count_of : Seen → Val → Option ℕ
count_of s (val.Str x) = Some (length (chars (text_at s x.0)))
count_of s (val.List o) = Some (length (row_at s o.0))
count_of s (val.Tuple o) = Some (length (row_at s o.0))
count_of s (val.Dict o) = Some (length (row_at s o.0) / 2)
count_of s (val.Range o) = Some (span_count (span_of (row_at s o.0)))
count_of s _ = None

-- whether there are so many elements
abbrev pub counts_to : Seen → Val → ℕ → Bool
counts_to s (val.List o) n = length (row_at s o.0) == n
counts_to s (val.Tuple o) n = length (row_at s o.0) == n
counts_to s (val.Dict o) n = length (row_at s o.0) / 2 == n
counts_to s (val.Range o) n = span_count (span_of (row_at s o.0)) == n
counts_to s _ n = false
