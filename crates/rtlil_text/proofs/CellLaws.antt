-- Bits of numbers as lists, and what cells make of them.
use Rattle.std.specs.Prelude.{◌≡◌, refl, ℕ, zero, suc, ◌+◌, ◌*◌, ◌<◌, ◌^◌, ◌/◌, ◌%◌, ◌==◌, Bool, false, cond, ◌&&◌, length, slice_get, Some, ℤ}
use Rattle.std.proofs.Common.{sym, ◌∙◌, ap, arith}
use Rattle.std.proofs.lemmas.Nat.{shr-shr, mod_below, mod-pow-add}
use Rattle.std.proofs.Math.Nat.{div-one, mod-eq_of_lt}
use Rattle.amh_bits.specs.Integers.{int_and}
use Rattle.amh_bits.specs.Patterns.{pattern, nat_bit, int_bit, IsOf}
use Rattle.amh_bits.proofs.Wraps.{number_pattern, pattern_below}
use Rattle.amh_bits.proofs.BitsOf.{int_bit_and, bit_pattern, nat_bit_low}
use Rattle.rtlil_text.specs.Cells.{number_bits, both, bits_number, integer}

-- bit k as a truth value
abbrev pub bit_set : ℕ → ℕ → Bool
bit_set n k = nat_bit n k == 1

pub slice_get-number_bits : (width n k : ℕ) → k < width → slice_get (number_bits width n) k ≡ Some (bit_set n k)
slice_get-number_bits zero n k h = absurd (omega arith)
slice_get-number_bits (suc width) n zero h = ap (λ x. Some (x % 2 == 1)) (sym (div-one n))
slice_get-number_bits (suc width) n (suc k) h = slice_get-number_bits width (n / 2) k (omega arith) ∙ ap (λ x. Some (x % 2 == 1)) (shr-shr n 1 k ∙ ap (λ j. n / 2 ^ j) (omega arith))

bit_values : (P : ℕ → Type 0) (b : ℕ) → b < 2 → P 0 → P 1 → P b
bit_values P zero h p q = p
bit_values P (suc zero) h p q = q
bit_values P (suc (suc n)) h p q = absurd (omega arith)

both_set : (x y : ℕ) → x < 2 → y < 2 → (x * y == 1) ≡ ((x == 1) && (y == 1))
both_set x y p q = bit_values (λ x. (x * y == 1) ≡ ((x == 1) && (y == 1))) x p (bit_values (λ y. (0 * y == 1) ≡ false) y q refl refl) (bit_values (λ y. (1 * y == 1) ≡ (y == 1)) y q refl refl)

-- the conjunction of the bits of two integers is the bit of their conjunction
pub both-and : (width k : ℕ) (x y : ℤ) → k < width → both ◌&&◌ (slice_get (number_bits width (pattern width x)) k) (slice_get (number_bits width (pattern width y)) k) ≡ slice_get (number_bits width (pattern width (int_and x y))) k
both-and width k x y h =
    rw (slice_get-number_bits width (pattern width x) k h, slice_get-number_bits width (pattern width y) k h, slice_get-number_bits width (pattern width (int_and x y)) k h) (ap Some (sym bits))
  where
    bits : bit_set (pattern width (int_and x y)) k ≡ (bit_set (pattern width x) k && bit_set (pattern width y) k)
    bits =
        ap (λ b. b == 1) (bit_pattern (int_and x y) width k h ∙ int_bit_and x y k ∙ ap (λ b. b * int_bit y k) (sym (bit_pattern x width k h)) ∙ ap (λ b. nat_bit (pattern width x) k * b) (sym (bit_pattern y width k h)))
        ∙ both_set (nat_bit (pattern width x) k) (nat_bit (pattern width y) k) (nat_bit_low (pattern width x) k) (nat_bit_low (pattern width y) k)

-- ---- cells whose operands are taken whole

bit_is : (b : ℕ) → b < 2 → cond (b == 1) 1 0 ≡ b
bit_is b h = bit_values (λ b. cond (b == 1) 1 0 ≡ b) b h refl refl

pub bits_number-number_bits : (width n : ℕ) → bits_number (number_bits width n) ≡ n % 2 ^ width
bits_number-number_bits zero n = omega (arith, mod_below n 1 (omega arith))
bits_number-number_bits (suc width) n =
    let low = bit_is (n % 2) (mod_below n 2 (omega arith)) in
    let high = bits_number-number_bits width (n / 2) in
    let split : n % 2 ^ (width + 1) ≡ (n / 2 % 2 ^ width) * 2 + n % 2 = mod-pow-add n width 1 in
    let e : 2 ^ suc width ≡ 2 ^ (width + 1) = ap (λ j. 2 ^ j) (omega arith) in
    ap (λ x. cond (n % 2 == 1) 1 0 + 2 * x) high ∙ ap (λ x. x + 2 * (n / 2 % 2 ^ width)) low ∙ omega (arith, split, ap (λ m. n % m) e)

pub length-number_bits : (width n : ℕ) → length (number_bits width n) ≡ width
length-number_bits zero n = refl
length-number_bits (suc width) n = ap suc (length-number_bits width (n / 2))

-- what a cell reads of the bits of a number of a shape is that number
pub integer-number_bits : (signed width : ℕ) (x : ℤ) → IsOf (signed == 1) width x → integer signed (number_bits width (pattern width x)) ≡ x
integer-number_bits signed width x h =
    rw (length-number_bits width (pattern width x), bits_number-number_bits width (pattern width x), mod-eq_of_lt (pattern_below width x)) (number_pattern (signed == 1) width x h)
