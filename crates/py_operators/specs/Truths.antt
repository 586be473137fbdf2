-- Truth.
-- Source: Python library reference, Built-in Types: Truth Value Testing; times and things: own rule (docs/RULES.md).
use Rattle.std.specs.Prelude.{ℕ, not, Bool, true, false, List, [], ◌∷◌, Option, Some, None}
use Rattle.py_values.specs.declared.val.Val.{Val}
use Rattle.py_values.specs.declared.val.Val.TheVariants as val
use Rattle.py_heap.specs.Heaps.{Seen, text_at, row_at}
use Rattle.py_values.specs.Numbers.{is_zero}
use Rattle.py_values.specs.Ranges.{span_of, is_empty_range}

abbrev pub is_some_list : {A : Type 0} → List A → Bool
is_some_list [] = false
is_some_list (x ∷ xs) = true

-- false are None, False, 0, and the empty string, list, tuple, dict and range; a time and a thing have no truth
abbrev pub truth : Seen → Val → Option Bool
truth s val.None = Some false
truth s (val.Bool b) = Some b
truth s (val.Int n) = Some (not (is_zero n))
truth s (val.Str x) = Some (is_some_list (text_at s x.0))
truth s (val.Time t) = None
truth s (val.List o) = Some (is_some_list (row_at s o.0))
truth s (val.Tuple o) = Some (is_some_list (row_at s o.0))
truth s (val.Dict o) = Some (is_some_list (row_at s o.0))
truth s (val.Range o) = Some (not (is_empty_range (span_of (row_at s o.0))))
truth s (val.Func f) = Some true
truth s (val.Class o) = Some true
truth s (val.Object o) = Some true
truth s (val.Hw h) = None
