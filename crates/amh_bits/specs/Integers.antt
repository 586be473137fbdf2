-- Integers, endless in both directions, and the part of them that the tool keeps.
-- Source: Python reference 3.2 (integers), 6.7 and 6.9; the range kept, and 0 for a divisor of 0: own rules (docs/RULES.md).
use Rattle.std.specs.Prelude.{◌≡◌, refl, unsigned_abs, ℕ, zero, suc, ◌/◌, ◌^◌, ◌<◌, ◌≤◌, Bool, true, false, ℤ, pos, negsuc, neg_ℤ, ◌-ℤ◌, ◌*ℤ◌, bit_and, bit_or, bit_xor}
use Rattle.std.proofs.Common.{arith}

-- an integer from a sign and a size
abbrev pub with_sign : Bool → ℕ → ℤ
with_sign false n = pos n
with_sign true n = neg_ℤ (pos n)

-- the integers that are kept, from -2^127 to 2^128 - 1; negsuc n is -1 - n
abbrev pub IsKept : ℤ → Type 0
IsKept (pos n) = n < 2 ^ 128
IsKept (negsuc n) = n < 2 ^ 127

-- a sign and a size that stand for a kept integer, each integer once
abbrev pub IsSignAndSize : Bool → ℕ → Type 0
IsSignAndSize false n = n < 2 ^ 128
IsSignAndSize true n = (0 < n) × (n ≤ 2 ^ 127)

-- ---- bit by bit, in endless two's complement: negsuc n has the bits of n, each turned

-- the bits of a that b does not have
abbrev pub bits_without : ℕ → ℕ → ℕ
bits_without a b = bit_xor a (bit_and a b)

abbrev pub int_not : ℤ → ℤ
int_not (pos n) = negsuc n
int_not (negsuc n) = pos n

abbrev pub int_and : ℤ → ℤ → ℤ
int_and (pos a) (pos b) = pos (bit_and a b)
int_and (pos a) (negsuc b) = pos (bits_without a b)
int_and (negsuc a) (pos b) = pos (bits_without b a)
int_and (negsuc a) (negsuc b) = negsuc (bit_or a b)

abbrev pub int_or : ℤ → ℤ → ℤ
int_or a b = int_not (int_and (int_not a) (int_not b))

abbrev pub int_xor : ℤ → ℤ → ℤ
int_xor (pos a) (pos b) = pos (bit_xor a b)
int_xor (pos a) (negsuc b) = negsuc (bit_xor a b)
int_xor (negsuc a) (pos b) = negsuc (bit_xor a b)
int_xor (negsuc a) (negsuc b) = pos (bit_xor a b)

-- ---- the quotient rounded down, and its remainder, which has the sign of the divisor

-- a by b, where b is not 0, of sizes
abbrev pub floor_quotient : ℤ → ℕ → ℤ
floor_quotient (pos a) b = pos (a / b)
floor_quotient (negsuc a) b = negsuc (a / b)

abbrev pub floor_div : ℤ → ℤ → ℤ
floor_div a (pos zero) = pos zero
floor_div a (pos (suc b)) = floor_quotient a (suc b)
floor_div a (negsuc b) = floor_quotient (neg_ℤ a) (suc b)

abbrev pub sign_of : ℤ → Bool
sign_of (pos n) = false
sign_of (negsuc n) = true

-- an integer gives its sign and size back
pub inverse_is : (negative : Bool) (size : ℕ) → IsSignAndSize negative size → (sign_of (with_sign negative size) ≡ negative) × (unsigned_abs (with_sign negative size) ≡ size)
inverse_is false n h = (refl, refl)
inverse_is true zero h = absurd (omega (arith, h.0))
inverse_is true (suc n) h = (refl, refl)

-- the bits as they are, or all of them turned
abbrev pub with_turned : Bool → ℕ → ℤ
with_turned false n = pos n
with_turned true n = negsuc n

abbrev pub floor_rem : ℤ → ℤ → ℤ
floor_rem a (pos zero) = pos zero
floor_rem a (pos (suc b)) = a -ℤ (floor_div a (pos (suc b)) *ℤ pos (suc b))
floor_rem a (negsuc b) = a -ℤ (floor_div a (negsuc b) *ℤ negsuc b)
