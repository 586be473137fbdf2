-- The elements of a range, by their number.
-- Source: Python library reference, Built-in Types: Ranges.
use Rattle.std.specs.Prelude.{◌≡◌, ℕ, zero, suc, ◌+◌, ◌*◌, ◌^◌, ◌≤◌, ◌⊎◌, if◌then◌else◌, ℤ, pos, negsuc, ◌+ℤ◌, ◌*ℤ◌, unsigned_abs, List, [], ◌∷◌, Option, Some, None}
use Rattle.std.specs.Option.{option_and_then}
use Rattle.std.specs.Int.{int_gap, div_ceil}
use Rattle.amh_bits.specs.Integers.{IsKept}
use Rattle.py_values.specs.declared.range.Span.{Span}
use Rattle.py_values.specs.Ranges.{comes_before}
use Rattle.py_heap.specs.Changes.{index_place}

-- how far m stands behind n on the way of a step, and 0 where n does not come before it
abbrev pub way : ℤ → ℤ → ℤ → ℕ
way (pos zero) n m = 0
way (pos (suc k)) n m = int_gap n m
way (negsuc k) n m = int_gap m n

-- how many elements there are: one for each whole step to the stop, and one for what is left of the way
abbrev pub span_count : Span → ℕ
span_count r = div_ceil (way r.step r.start r.stop) (unsigned_abs r.step)

-- the number that so many steps lead to
abbrev pub stepped : ℤ → ℤ → ℕ → ℤ
stepped n step i = n +ℤ (step *ℤ pos i)

-- so many steps at once: they lead to a number that is kept, or none is answered, also where the way is too long
abbrev pub Hops : ℤ → ℤ → ℕ → Option ℤ → Type 0
Hops n step i (Some m) = IsKept (stepped n step i) × (m ≡ stepped n step i)
Hops n step i None = (2 ^ 128 ≤ i * unsigned_abs step) ⊎ (¬ IsKept (stepped n step i))

-- the i-th element, while it stands before the stop
abbrev pub span_element : Span → ℕ → Option ℤ
span_element r i = if comes_before r.step (stepped r.start r.step i) r.stop then Some (stepped r.start r.step i) else None

-- so many numbers, from the i-th on
unfoldable pub numbers_from : ℕ → ℕ → Span → List ℤ
numbers_from zero i r = []
numbers_from (suc n) i r = stepped r.start r.step i ∷ numbers_from n (i + 1) r

-- all elements, in order
abbrev pub span_numbers : Span → List ℤ
span_numbers r = numbers_from (span_count r) 0 r

-- the element at an index, counted from the end where it is negative
abbrev pub span_item : Span → ℤ → Option ℤ
span_item r n = option_and_then (span_element r) (index_place (span_count r) n)
