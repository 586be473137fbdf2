-- Shifts of integers: which leave the range, and where each bit goes.
use Rattle.std.proofs.Common.{ℕ, zero, suc, ◌-◌, ◌*◌, ◌≤◌, ◌<◌, ◌^◌, ◌/◌, pos, neg_ℤ, ◌*ℤ◌, Bool, true, false, arith}
use Rattle.std.proofs.lemmas.Nat.{mul-le, div-add-mod', mod_below, pow_pos}
use Rattle.std.proofs.Math.Nat.{pow-le-pow_right, suc-mul, zero-mul}
use Rattle.amh_bits.specs.Integers.{with_sign, IsKept}

kept_size : (n : ℕ) → IsKept (neg_ℤ (pos n)) → n < 2 ^ 128
kept_size zero h = h
kept_size (suc n) h = omega arith

pub shifted_out : (negative : Bool) (size by : ℕ) → 2 ^ 128 ≤ size * 2 ^ by → IsKept (with_sign negative size *ℤ pos (2 ^ by)) → ⊥
shifted_out false size by out h = omega arith
shifted_out true zero by out h = omega (arith, zero-mul (2 ^ by))
shifted_out true (suc n) by out h = omega (arith, kept_size (suc n * 2 ^ by) h)

pub far_out : (size by : ℕ) → 0 < size → 128 ≤ by → 2 ^ 128 ≤ size * 2 ^ by
far_out size by some far =
    let p : 2 ^ 128 ≤ 2 ^ by = pow-le-pow_right {n = 2} (omega arith) far in
    omega (arith, mul-le 1 (2 ^ 128) size (2 ^ by) some p)

pub high_out : (size by : ℕ) → (2 ^ 128 - 1) / 2 ^ by < size → 2 ^ 128 ≤ size * 2 ^ by
high_out size by high =
    let d : ℕ = 2 ^ by in
    let q : ℕ = (2 ^ 128 - 1) / d in
    omega (arith, mul-le (suc q) d size d high (omega arith), suc-mul q d, div-add-mod' (2 ^ 128 - 1) d, mod_below (2 ^ 128 - 1) d (pow_pos by))
