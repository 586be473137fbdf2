-- Samples of ranges as shapes, computed.
use Rattle.std.specs.Prelude.{◌≡◌, refl, [], ◌∷◌, ℤ, pos, negsuc, Result, Ok, Err}
use Rattle.shape_rules.specs.Forms.{Form, unsigned, signed_form}
use Rattle.py_values.specs.declared.val.Val.TheVariants as val
use Rattle.py_heap.specs.Heaps.{Seen, seen, nothing}
use Rattle.py_builtins.specs.Scalars.{first_from}
use Rattle.py_operators.specs.Spans.{numbers_from}
use Rattle.py_frames.specs.declared.request.Cause.{Cause}
use Rattle.py_frames.specs.declared.request.Cause.TheVariants as cause
use Rattle.amh_things.specs.Ranges.{range_shape}

-- a heap whose row 0 is a range
heap : ℤ → ℤ → ℤ → Seen
heap start stop step = seen nothing (record nothing { rows = (val.Int start ∷ val.Int stop ∷ val.Int step ∷ []) ∷ [] })

shape_of : ℤ → ℤ → ℤ → Result Form Cause
shape_of start stop step = range_shape (heap start stop step) (record { 0 = 0 })

-- `range(10)`, of 0 to 9
ten : shape_of (pos 0) (pos 10) (pos 1) ≡ Ok (unsigned 4)
unfolding shape_of heap first_from numbers_from
ten = refl

-- `range(0)` and `range(1)`
nothing_in : shape_of (pos 0) (pos 0) (pos 1) ≡ Ok (unsigned 0)
unfolding shape_of heap first_from numbers_from
nothing_in = refl

zero_alone : shape_of (pos 0) (pos 1) (pos 1) ≡ Ok (unsigned 0)
unfolding shape_of heap first_from numbers_from
zero_alone = refl

-- `range(-3, 5, 4)` has -3 and 1
one_negative : shape_of (negsuc 2) (pos 5) (pos 4) ≡ Ok (signed_form 3)
unfolding shape_of heap first_from numbers_from
one_negative = refl

-- `range(5, -5, -3)` has 5, 2, -1 and -4
downwards : shape_of (pos 5) (negsuc 4) (negsuc 2) ≡ Ok (signed_form 4)
unfolding shape_of heap first_from numbers_from
downwards = refl

-- `range(0, 16, 8)` has 0 and 8, and not 15
by_eight : shape_of (pos 0) (pos 16) (pos 8) ≡ Ok (unsigned 4)
unfolding shape_of heap first_from numbers_from
by_eight = refl

-- `range(-1, 2 ** 128 - 1, 2 ** 127)` has -1 and 2 ** 127 - 1, which are of 128 bits; from 2 ** 127 on they are not
widest_range : shape_of (negsuc 0) (pos 340282366920938463463374607431768211455) (pos 170141183460469231731687303715884105728) ≡ Ok (signed_form 128)
unfolding shape_of heap first_from numbers_from
widest_range = refl

too_wide : shape_of (negsuc 0) (pos 340282366920938463463374607431768211455) (pos 170141183460469231731687303715884105729) ≡ Err cause.Width
unfolding shape_of heap first_from numbers_from
too_wide = refl
