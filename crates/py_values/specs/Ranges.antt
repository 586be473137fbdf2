-- Ranges: from start on by steps, before stop.
-- Source: Python library reference, Built-in Types: Ranges.
use Rattle.std.specs.Prelude.{ℕ, zero, suc, ◌&&◌, not, Bool, true, false, ℤ, pos, negsuc, int_lt, List, Option, Some, None, slice_get, unwrap_or}
use Rattle.std.specs.Ordering.{int_eq}
use Rattle.amh_bits.specs.Integers.{floor_rem}
use Rattle.py_values.specs.declared.val.Val.{Val}
use Rattle.py_values.specs.declared.range.Span.{Span}
use Rattle.py_values.specs.Numbers.{number_of}

abbrev pub number_in : Option Val → ℤ
number_in None = pos 0
number_in (Some v) = unwrap_or (number_of v) (pos 0)

-- the row of a range has its start, its stop and its step
abbrev pub span_of : List Val → Span
span_of row = record { start = number_in (slice_get row 0); stop = number_in (slice_get row 1); step = number_in (slice_get row 2) }

-- n stands before m, on the way of the step
abbrev pub comes_before : ℤ → ℤ → ℤ → Bool
comes_before (pos zero) n m = false
comes_before (pos (suc k)) n m = int_lt n m
comes_before (negsuc k) n m = int_lt m n

abbrev pub is_empty_range : Span → Bool
is_empty_range r = not (comes_before r.step r.start r.stop)

-- whole steps from the start, and before the stop
abbrev pub in_range : Span → ℤ → Bool
in_range r n = comes_before r.step n r.stop && (not (comes_before r.step n r.start) && int_eq (floor_rem n r.step) (floor_rem r.start r.step))
