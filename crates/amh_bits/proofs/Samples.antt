-- Integers and bits on literal numbers, worked out by hand and compared with Python's.
use Rattle.std.specs.Prelude.{◌≡◌, refl, ℕ, ◌+◌, ◌^◌, ◌-◌, true, false, ℤ, pos, neg_ℤ, ◌+ℤ◌, ◌-ℤ◌, ◌*ℤ◌, int_lt, List, [], ◌∷◌, codes}
use Rattle.std.specs.Fmt.{digits}
use Rattle.std.proofs.Common.{arith}
use Rattle.amh_bits.specs.Integers.{IsKept, int_and, int_or, int_xor, int_not, floor_div, floor_rem, floor_quotient}
use Rattle.amh_bits.specs.Patterns.{wrap, number}
use Rattle.amh_bits.specs.BitVectors.{BitVector, bits_of, joined, sliced, extended}
use Rattle.amh_bits.specs.Decimals.{int_text}

abbrev minus : ℕ → ℤ
minus n = neg_ℤ (pos n)

-- a + b, a - b, a * b, a // b, a % b, a & b, a | b and a ^ b
abbrev all_of : ℤ → ℤ → List ℤ
all_of a b = (a +ℤ b) ∷ (a -ℤ b) ∷ (a *ℤ b) ∷ floor_div a b ∷ floor_rem a b ∷ int_and a b ∷ int_or a b ∷ int_xor a b ∷ []

of_two : all_of (pos 7) (pos 3) ≡ pos 10 ∷ pos 4 ∷ pos 21 ∷ pos 2 ∷ pos 1 ∷ pos 3 ∷ pos 7 ∷ pos 4 ∷ []
of_two = refl

of_minus_and_plus : all_of (minus 7) (pos 3) ≡ minus 4 ∷ minus 10 ∷ minus 21 ∷ minus 3 ∷ pos 2 ∷ pos 1 ∷ minus 5 ∷ minus 6 ∷ []
of_minus_and_plus = refl

of_plus_and_minus : all_of (pos 7) (minus 3) ≡ pos 4 ∷ pos 10 ∷ minus 21 ∷ minus 3 ∷ minus 2 ∷ pos 5 ∷ minus 1 ∷ minus 6 ∷ []
of_plus_and_minus = refl

of_two_minus : all_of (minus 7) (minus 3) ≡ minus 10 ∷ minus 4 ∷ pos 21 ∷ pos 2 ∷ minus 1 ∷ minus 7 ∷ minus 3 ∷ pos 4 ∷ []
of_two_minus = refl

of_a_multiple : all_of (minus 6) (pos 3) ≡ minus 3 ∷ minus 9 ∷ minus 18 ∷ minus 2 ∷ pos 0 ∷ pos 2 ∷ minus 5 ∷ minus 7 ∷ []
of_a_multiple = refl

of_zero : all_of (pos 0) (minus 5) ≡ minus 5 ∷ pos 5 ∷ pos 0 ∷ pos 0 ∷ pos 0 ∷ pos 0 ∷ minus 5 ∷ minus 5 ∷ []
of_zero = refl

by_zero : all_of (pos 5) (pos 0) ≡ pos 5 ∷ pos 5 ∷ pos 0 ∷ pos 0 ∷ pos 0 ∷ pos 0 ∷ pos 5 ∷ pos 5 ∷ []
by_zero = refl

-- ~a, a << by and a >> by
abbrev turned_and_shifted : ℤ → ℕ → List ℤ
turned_and_shifted a by = int_not a ∷ (a *ℤ pos (2 ^ by)) ∷ floor_quotient a (2 ^ by) ∷ []

shifted_minus : turned_and_shifted (minus 5) 1 ≡ pos 4 ∷ minus 10 ∷ minus 3 ∷ []
shifted_minus = refl

shifted_plus : turned_and_shifted (pos 5) 2 ≡ minus 6 ∷ pos 20 ∷ pos 1 ∷ []
shifted_plus = refl

shifted_far : turned_and_shifted (minus 1) 127 ≡ pos 0 ∷ minus 170141183460469231731687303715884105728 ∷ minus 1 ∷ []
shifted_far = refl

-- without a sign, and with one
abbrev wrapped : ℕ → ℤ → List ℤ
wrapped width a = wrap false width a ∷ wrap true width a ∷ []

wrapped_minus : wrapped 5 (minus 6) ≡ pos 26 ∷ minus 6 ∷ []
wrapped_minus = refl

wrapped_plus : wrapped 5 (pos 19) ≡ pos 19 ∷ minus 13 ∷ []
wrapped_plus = refl

wrapped_past : wrapped 8 (pos 300) ≡ pos 44 ∷ pos 44 ∷ []
wrapped_past = refl

wrapped_widest : wrapped 128 (pos 170141183460469231731687303715884105728) ≡ pos 170141183460469231731687303715884105728 ∷ minus 170141183460469231731687303715884105728 ∷ []
wrapped_widest = refl

wrapped_to_nothing : (wrap false 0 (minus 1) ≡ pos 0) × (wrap false 128 (minus 1) ≡ pos (2 ^ 128 - 1))
wrapped_to_nothing = (refl, refl)

-- ---- the ends of the range

least : ℤ
least = minus (2 ^ 127)

greatest : ℤ
greatest = pos (2 ^ 128 - 1)

ends_are_kept : IsKept least × IsKept greatest
unfolding least greatest
ends_are_kept = (omega arith, omega arith)

-- the greatest and 1, the least less 1, the least by -1, the greatest by -1, and the bits of the greatest turned
past_the_ends : (greatest +ℤ pos 1 ≡ pos (2 ^ 128)) × (least -ℤ pos 1 ≡ minus (2 ^ 127 + 1)) × (floor_div least (minus 1) ≡ pos (2 ^ 127)) × (floor_div greatest (minus 1) ≡ minus (2 ^ 128 - 1)) × (int_not greatest ≡ minus (2 ^ 128)) × (int_xor greatest least ≡ minus (2 ^ 127 + 1)) × (greatest -ℤ greatest ≡ pos 0)
unfolding least greatest
past_the_ends = (refl, refl, refl, refl, refl, refl, refl)

not_kept_above : IsKept (pos (2 ^ 128)) → ⊥
not_kept_above h = omega (arith, h)

not_kept_below : IsKept (minus (2 ^ 127 + 1)) → ⊥
not_kept_below h = omega (arith, h)

far_down : floor_quotient least (2 ^ 200) ≡ minus 1
unfolding least
far_down = refl

compared : (int_lt least greatest ≡ true) × (int_lt greatest greatest ≡ false)
unfolding least greatest
compared = (refl, refl)

-- ---- bits

of_width : ℕ → ℕ → BitVector
of_width width bits = record { width = width; bits = bits }

-- 011 below 10 is 10011, which is 19, or -13 with a sign
both : (bits_of 3 (pos 3) ≡ of_width 3 3) × (bits_of 2 (minus 2) ≡ of_width 2 2) × (joined (of_width 3 3) (of_width 2 2) ≡ of_width 5 19) × (number false 5 19 ≡ pos 19) × (number true 5 19 ≡ minus 13)
unfolding of_width
both = (refl, refl, refl, refl, refl)

parts : (sliced 1 3 (of_width 5 19) ≡ of_width 3 1) × (sliced 5 0 (of_width 5 19) ≡ of_width 0 0)
unfolding of_width
parts = (refl, refl)

widened : (extended false 8 (of_width 5 19) ≡ of_width 8 19) × (extended true 8 (of_width 5 19) ≡ of_width 8 243) × (extended false 4 (of_width 0 0) ≡ of_width 4 0)
unfolding of_width
widened = (refl, refl, refl)

-- ---- numerals

numerals : (int_text (pos 0) ≡ codes "0") × (int_text (minus 42) ≡ codes "-42") × (int_text least ≡ codes "-170141183460469231731687303715884105728") × (int_text greatest ≡ codes "340282366920938463463374607431768211455")
unfolding least greatest digits
numerals = (refl, refl, refl, refl)
