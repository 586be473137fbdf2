-- Writing one bit of a pattern.
use Rattle.std.specs.Prelude.{◌≡◌, ℕ, ◌+◌, ◌-◌, ◌*◌, ◌/◌, ◌%◌, ◌^◌, ◌<◌, ◌≤◌}
use Rattle.std.proofs.Common.{sym, ◌∙◌, ap, subst, arith}
use Rattle.std.proofs.lemmas.Nat.{mul-add-lt, pow-add, pow_pos, mod_below, shr_below, shr-shr}
use Rattle.std.proofs.Math.Nat.{mul_comm, mul_assoc, add-mul, pow-le-pow_right}
use Rattle.design_ir.specs.Put.{with_bit}

grouped : (a b l r : ℕ) → (a * 2 + b) * l + r ≡ a * (l * 2) + (b * l + r)
grouped a b l r = omega (arith, add-mul (a * 2) b l, mul_assoc a 2 l, ap (λ k. a * k) (mul_comm 2 l))

-- the bits above, the bit and the bits below, one above the other
pub with_bit_is : (i b n : ℕ) → (n / 2 ^ i / 2 ^ 1 * 2 + b) * 2 ^ i + n % 2 ^ i ≡ with_bit i b n
with_bit_is i b n =
    grouped (n / 2 ^ i / 2 ^ 1) b (2 ^ i) (n % 2 ^ i)
    ∙ ap (λ k. n / 2 ^ i / 2 ^ 1 * k + (b * 2 ^ i + n % 2 ^ i)) (sym (pow-add 2 i 1))
    ∙ ap (λ a. a * 2 ^ (i + 1) + (b * 2 ^ i + n % 2 ^ i)) (shr-shr n i 1)

-- no bit is past the width
pub with_bit_below : (w i b n : ℕ) → i < w → b < 2 → n < 2 ^ w → with_bit i b n < 2 ^ w
with_bit_below w i b n inside bit below =
    let j : ℕ = w - (i + 1) in
    let split : j + (i + 1) ≡ w = omega (arith, inside) in
    let turned : i + 1 + j ≡ w = omega (arith, inside) in
    let low = mul-add-lt b (2 ^ i) (n % 2 ^ i) 2 bit (mod_below n (2 ^ i) (pow_pos i)) in
    let small : b * 2 ^ i + n % 2 ^ i < 2 ^ (i + 1) = omega (arith, low, pow-add 2 i 1) in
    let high : n / 2 ^ (i + 1) < 2 ^ j = shr_below n j (i + 1) (subst (λ k. n < 2 ^ k) (sym split) below) in
    let both = mul-add-lt (n / 2 ^ (i + 1)) (2 ^ (i + 1)) (b * 2 ^ i + n % 2 ^ i) (2 ^ j) high small in
    omega (arith, both, sym (pow-add 2 (i + 1) j) ∙ ap (λ k. 2 ^ k) turned)

-- as the code has it, at 2 ^ i
pub written : (i b n low : ℕ) → low ≡ 2 ^ i → (n / 2 ^ i / 2 * 2 + b) * low + n % low ≡ with_bit i b n
written i b n low e = ap (λ l. (n / 2 ^ i / 2 * 2 + b) * l + n % l) e ∙ with_bit_is i b n

pub written_below : (w i b n low : ℕ) → low ≡ 2 ^ i → i < w → b < 2 → n < 2 ^ w → (n / 2 ^ i / 2 * 2 + b) * low + n % low < 2 ^ w
written_below w i b n low e inside bit below =
    subst (λ k. k < 2 ^ w) (sym (written i b n low e)) (with_bit_below w i b n inside bit below)

pub written_fits : (w i b n low : ℕ) → low ≡ 2 ^ i → i < w → w ≤ 128 → b < 2 → n < 2 ^ w → (n / 2 ^ i / 2 * 2 + b) * low + n % low < 2 ^ 128
written_fits w i b n low e inside narrow bit below =
    omega (arith, written_below w i b n low e inside bit below, pow-le-pow_right {n = 2} (omega arith) narrow)
