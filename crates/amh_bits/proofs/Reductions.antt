-- A number by all its bits: none, all of them, and how many.
use Rattle.std.proofs.Common.{◌≡◌, ℕ, zero, suc, ◌+◌, ◌-◌, ◌<◌, ◌^◌, ◌/◌, ◌%◌, ℤ, pos, negsuc, Bool, true, false, refl, sym, ◌∙◌, ap, arith, count_ones}
use lib.Count.{ones}
use Rattle.std.proofs.lemmas.Nat.{pow_pos, mod_below, shr_split, shr_below, ones_cat}
use Rattle.std.proofs.Math.Nat.{mod-eq_of_lt, add_comm}
use Rattle.amh_bits.specs.Patterns.{pattern, IsOf, nat_bit}
use Rattle.amh_bits.proofs.BitsOf.{nat_bit_turned, nat_bit_zero, nat_bit_mod}
use Rattle.amh_bits.proofs.Same.{same_nat}

-- each bit of the greatest number of a width
pub nat_bit_ones : (width k : ℕ) → k < width → nat_bit (2 ^ width - 1) k ≡ 1
nat_bit_ones width k h = nat_bit_turned 0 width k h (pow_pos width) ∙ ap (λ b. 1 - b) (nat_bit_zero k)

pub zero_by_bits : (width n : ℕ) → n < 2 ^ width → ((k : ℕ) → k < width → nat_bit n k ≡ 0) → n ≡ 0
zero_by_bits width n small none = same_nat width n 0 small (pow_pos width) (λ k h. none k h ∙ sym (nat_bit_zero k))

pub ones_by_bits : (width n : ℕ) → n < 2 ^ width → ((k : ℕ) → k < width → nat_bit n k ≡ 1) → n ≡ 2 ^ width - 1
ones_by_bits width n small all = same_nat width n (2 ^ width - 1) small (omega (arith, pow_pos width)) (λ k h. all k h ∙ sym (nat_bit_ones width k h))

-- an integer of a shape with no bits set is 0
pub zero_pattern : (signed : Bool) (width : ℕ) (z : ℤ) → IsOf signed width z → pattern width z ≡ 0 → z ≡ pos 0
zero_pattern false width (pos n) f e = ap pos (sym (mod-eq_of_lt f) ∙ e)
zero_pattern true width (pos n) f e = let small : n < 2 ^ width = omega arith in ap pos (sym (mod-eq_of_lt small) ∙ e)
zero_pattern false width (negsuc n) f e = absurd f
zero_pattern true width (negsuc n) f e =
    let small : n < 2 ^ width = omega arith in
    absurd (omega (arith, mod-eq_of_lt small))

-- how many of the bits below a place are set
abbrev pub ones_below : ℕ → ℕ → ℕ
ones_below zero n = 0
ones_below (suc width) n = ones_below width n + nat_bit n width

ones_below_same : (width m n : ℕ) → ((k : ℕ) → k < width → nat_bit m k ≡ nat_bit n k) → ones_below width m ≡ ones_below width n
ones_below_same zero m n same = refl
ones_below_same (suc width) m n same = rw (ones_below_same width m n (λ k h. same k (omega arith)), same width (omega arith)) refl

suc_as_sum : (width : ℕ) → 2 ^ suc width ≡ 2 ^ (1 + width)
suc_as_sum width = ap (λ w. 2 ^ w) (omega arith)

one_bit : (b : ℕ) → b < 2 → count_ones b ≡ b % 2
unfolding ones
one_bit zero h = refl
one_bit (suc zero) h = refl
one_bit (suc (suc n)) h = absurd (omega arith)

pub count_ones_bits : (width n : ℕ) → n < 2 ^ width → count_ones n ≡ ones_below width n
count_ones_bits zero n small = let e : n ≡ 0 = omega arith in rw e (one_bit 0 (omega arith))
count_ones_bits (suc width) n small =
    let high : n / 2 ^ width < 2 = omega (arith, shr_below n 1 width (rw (suc_as_sum width) at small)) in
    let low : n % 2 ^ width < 2 ^ width = mod_below n (2 ^ width) (pow_pos width) in
    ap count_ones (sym (shr_split n width))
    ∙ ones_cat width (n / 2 ^ width) (n % 2 ^ width) low
    ∙ add_comm (count_ones (n / 2 ^ width)) (count_ones (n % 2 ^ width))
    ∙ rw (count_ones_bits width (n % 2 ^ width) low, ones_below_same width (n % 2 ^ width) n (λ k h. nat_bit_mod n width k h), one_bit (n / 2 ^ width) high) refl
