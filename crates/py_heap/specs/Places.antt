-- Where new values stand, and the counts that they may not pass.
-- Source: this project's own rule (docs/RULES.md).
use Rattle.std.specs.Prelude.{ℕ, ◌+◌, ◌||◌, nat_lt, Bool, if◌then◌else◌, List, [], ◌∷◌, ◌++◌, length, Option, Some, None, Result, Ok, Err}
use Rattle.std.specs.Str.{chars}
use Rattle.py_values.specs.declared.val.Val.{Val}
use Rattle.py_values.specs.declared.val.Val.TheVariants as val
use Rattle.py_values.specs.declared.val.ValueStop.{ValueStop}
use Rattle.py_values.specs.declared.val.ValueStop.TheVariants.{Limit, Raised}
use Rattle.py_values.specs.declared.range.Span.{Span}
use Rattle.py_heap.specs.declared.fresh.Fresh.{Fresh}
use Rattle.py_heap.specs.declared.fresh.Fresh.TheVariants as fresh
use Rattle.py_heap.specs.Heaps.{Made, Seen}

-- a string has at most 4,096 characters, and all strings that were made 16,777,216
abbrev pub text_passes : Seen → ℕ → Bool
text_passes s n = nat_lt 4096 n || nat_lt 16777216 (s.frozen.chars + s.own.chars + n)

abbrev pub new_text : Seen → List ℕ → Result (Val × Made) ValueStop
new_text s text =
    if text_passes s (length (chars text)) then Err Limit
    else Ok (val.Str (record { 0 = length s.frozen.texts + length s.own.texts }), record s.own { texts = s.own.texts ++ text ∷ []; chars = s.own.chars + length (chars text) })

-- a list, tuple or dict has at most 65,536 items, and all that were made 4,194,304
abbrev pub row_passes : Seen → ℕ → Bool
row_passes s n = nat_lt 65536 n || nat_lt 4194304 (s.frozen.items + s.own.items + n)

abbrev pub new_row : Seen → List Val → Result (ℕ × Made) ValueStop
new_row s row =
    if row_passes s (length row) then Err Limit
    else Ok (length s.frozen.rows + length s.own.rows, record s.own { rows = s.own.rows ++ row ∷ []; items = s.own.items + length row })

-- the value of a new row, by its number
abbrev pub named : (ℕ → Val) → Result (ℕ × Made) ValueStop → Result (Val × Made) ValueStop
named f (Ok x) = Ok (f x.0, x.1)
named f (Err stop) = Err stop

abbrev pub placed : Seen → Fresh → Result (Val × Made) ValueStop
placed s (fresh.Val v) = Ok (v, s.own)
placed s (fresh.Text text) = new_text s text
placed s (fresh.List row) = named (λ n. val.List (record { 0 = n })) (new_row s row)
placed s (fresh.Tuple row) = named (λ n. val.Tuple (record { 0 = n })) (new_row s row)

-- a new list, and a new tuple
abbrev pub new_list : Seen → List Val → Result (Val × Made) ValueStop
new_list s row = placed s (fresh.List row)

abbrev pub new_tuple : Seen → List Val → Result (Val × Made) ValueStop
new_tuple s row = placed s (fresh.Tuple row)

-- a range has its start, its stop and its step; none of the three is counted as an item
abbrev pub span_row : Span → List Val
span_row r = val.Int r.start ∷ val.Int r.stop ∷ val.Int r.step ∷ []

abbrev pub new_range : Seen → Option Span → Result (Val × Made) ValueStop
new_range s None = Err Raised
new_range s (Some r) = Ok (val.Range (record { 0 = length s.frozen.rows + length s.own.rows }), record s.own { rows = s.own.rows ++ span_row r ∷ [] })
