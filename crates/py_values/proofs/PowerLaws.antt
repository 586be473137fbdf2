-- Powers and shifts past the range.
use Rattle.std.proofs.Common.{◌≡◌, ℕ, zero, suc, ◌+◌, ◌*◌, ◌≤◌, ◌<◌, ◌^◌, ◌/◌, ℤ, pos, negsuc, Bool, true, false, Result, Ok, Err, refl, arith, ap, sym, subst, ◌∙◌}
use Rattle.std.specs.Prelude.{neg_ℤ, ◌*ℤ◌}
use Rattle.std.proofs.Math.Nat.{pow-suc, pow-le-pow_left, pow-le-pow_right, pow-zero}
use Rattle.amh_bits.specs.Integers.{with_sign, IsSignAndSize, IsKept, floor_quotient}
use Rattle.amh_bits.proofs.Masks.{far}
use Rattle.amh_bits.proofs.Shifts.{shifted_out, far_out}
use Rattle.py_values.specs.declared.val.Val.{Val}
use Rattle.py_values.specs.declared.val.Val.TheVariants as val
use Rattle.py_values.specs.declared.val.NumberStop.{NumberStop}
use Rattle.py_values.specs.declared.val.NumberStop.TheVariants.{Width}
use Rattle.py_values.specs.Numbers.{kept, shifted_up, shifted_down}
use Rattle.py_values.proofs.NumberLaws.{is_kept_not}

false_or_true : true ≡ false → ⊥
false_or_true e = cc

one_pow : (n : ℕ) → 1 ^ n ≡ 1
one_pow zero = pow-zero 1
one_pow (suc n) = pow-suc 1 n ∙ omega (arith, one_pow n)

zero_pow : (n : ℕ) → 0 ^ suc n ≡ 0
zero_pow n = pow-suc 0 n ∙ omega arith

pub small_pow : (size n : ℕ) → size < 2 → 0 < n → size ^ n ≡ size
small_pow zero zero h g = absurd (omega arith)
small_pow zero (suc n) h g = zero_pow n
small_pow (suc zero) n h g = one_pow n
small_pow (suc (suc m)) n h g = absurd (omega arith)

pub large_pow : (size n : ℕ) → 2 ≤ size → 128 ≤ n → 2 ^ 128 ≤ size ^ n
large_pow size n h g =
    let p : 2 ^ 128 ≤ 2 ^ n = pow-le-pow_right {n = 2} (omega arith) g in
    let q : 2 ^ n ≤ size ^ n = pow-le-pow_left h n in
    omega arith

pub sized_kept : (negative : Bool) (size : ℕ) → IsSignAndSize negative size → IsKept (with_sign negative size)
sized_kept false size h = h
sized_kept true zero h = absurd (omega (arith, h.0))
sized_kept true (suc n) h = omega (arith, h.1)

far_quotient : (a : ℤ) (by : ℕ) → IsKept a → 128 ≤ by → floor_quotient a (2 ^ by) ≡ floor_quotient a (2 ^ 128)
far_quotient (pos n) by h g = ap pos (far n by h g ∙ sym (far n 128 h (omega arith)))
far_quotient (negsuc n) by h g =
    let k : n < 2 ^ 128 = omega arith in
    ap negsuc (far n by k g ∙ sym (far n 128 k (omega arith)))

pub far_down : (a b : ℤ) (na : Bool) (sa : ℕ) (nb : Bool) (sb : ℕ) (r : ℤ) → IsSignAndSize na sa → with_sign na sa ≡ a → nb ≡ false → with_sign nb sb ≡ b → 128 ≤ sb → r ≡ floor_quotient a (2 ^ 128) → Ok (val.Int r) ≡ shifted_down a b
far_down a b na sa true sb r h va e vb g q = absurd (false_or_true e)
far_down a b na sa false sb r h va e vb g q =
    let k : IsKept a = subst IsKept va (sized_kept na sa h) in
    rw (← vb) (ap (λ z. Ok (val.Int z)) (q ∙ sym (far_quotient a sb k g)))

far_out_of : (negative : Bool) (size n : ℕ) → 0 < size → 128 ≤ n → Err Width ≡ kept (with_sign negative size *ℤ pos (2 ^ n))
far_out_of negative size n some g =
    rw (is_kept_not (with_sign negative size *ℤ pos (2 ^ n)) (shifted_out negative size n (far_out size n some g))) refl

pub far_up : (a b : ℤ) (na : Bool) (sa : ℕ) (nb : Bool) (sb : ℕ) → 0 < sa → with_sign na sa ≡ a → nb ≡ false → with_sign nb sb ≡ b → 128 ≤ sb → Err Width ≡ shifted_up a b
far_up a b na sa true sb some va e vb g = absurd (false_or_true e)
far_up a b na sa false sb some va e vb g = rw (← vb, ← va) (far_out_of na sa sb some g)
