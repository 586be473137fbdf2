-- The quotient is the floor, and the remainder what it leaves, on the divisor's side of 0.
use Rattle.std.proofs.Common.{◌≡◌, ℕ, zero, suc, ◌/◌, ℤ, pos, negsuc, ◌+ℤ◌, ◌*ℤ◌, ◌≤ℤ◌, ◌<ℤ◌, arith}
use Rattle.std.proofs.lemmas.Int.{ints}
use Rattle.std.proofs.lemmas.Nat.{mod_below, div-add-mod'}
use Rattle.std.proofs.Math.Nat.{suc-mul}
use Rattle.amh_bits.specs.Integers.{floor_quotient, floor_div, floor_rem}
use Rattle.amh_bits.proofs.Remainders.{floor_rem-pos_pos, floor_rem-negsuc_pos, floor_rem-pos_negsuc, floor_rem-negsuc_negsuc, floor_rem-zero_negsuc}

-- the greatest multiple that is not above the integer
pub floor_low : (z : ℤ) (m : ℕ) → (floor_quotient z (suc m) *ℤ pos (suc m)) ≤ℤ z
floor_low (pos n) m = omega (arith, ints, div-add-mod' n (suc m))
floor_low (negsuc n) m = omega (arith, ints, div-add-mod' n (suc m), suc-mul (n / suc m) (suc m), mod_below n (suc m) (omega arith))

pub floor_high : (z : ℤ) (m : ℕ) → z <ℤ (floor_quotient z (suc m) *ℤ pos (suc m) +ℤ pos (suc m))
floor_high (pos n) m = omega (arith, ints, div-add-mod' n (suc m), mod_below n (suc m) (omega arith))
floor_high (negsuc n) m = omega (arith, ints, div-add-mod' n (suc m), suc-mul (n / suc m) (suc m))

pub floor_rem_positive : (z : ℤ) (m : ℕ) → (pos 0 ≤ℤ floor_rem z (pos (suc m))) × (floor_rem z (pos (suc m)) <ℤ pos (suc m))
floor_rem_positive (pos n) m = rw (floor_rem-pos_pos n m) (omega (arith, ints), omega (arith, ints, mod_below n (suc m) (omega arith)))
floor_rem_positive (negsuc n) m = rw (floor_rem-negsuc_pos n m) (omega (arith, ints), omega (arith, ints))

pub floor_rem_negative : (z : ℤ) (m : ℕ) → (negsuc m <ℤ floor_rem z (negsuc m)) × (floor_rem z (negsuc m) ≤ℤ pos 0)
floor_rem_negative (pos zero) m = rw (floor_rem-zero_negsuc m) (omega (arith, ints), omega (arith, ints))
floor_rem_negative (pos (suc n)) m = rw (floor_rem-pos_negsuc n m) (omega (arith, ints), omega (arith, ints))
floor_rem_negative (negsuc n) m =
    rw (floor_rem-negsuc_negsuc n m) (omega (arith, ints, mod_below (suc n) (suc m) (omega arith)), omega (arith, ints))

pub floor_split_positive : (z : ℤ) (m : ℕ) → z ≡ floor_div z (pos (suc m)) *ℤ pos (suc m) +ℤ floor_rem z (pos (suc m))
floor_split_positive z m = omega (arith, ints)

pub floor_split_negative : (z : ℤ) (m : ℕ) → z ≡ floor_div z (negsuc m) *ℤ negsuc m +ℤ floor_rem z (negsuc m)
floor_split_negative z m = omega (arith, ints)
