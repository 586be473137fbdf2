-- Numbers of 128 bits in four parts of 32 bits.
-- Internal: no rule of the language.
use Rattle.std.specs.Prelude.{ℕ, ◌≡◌, ◌+◌, ◌*◌, ◌/◌, ◌%◌, ◌^◌, ◌<◌}
use Rattle.std.proofs.Common.{arith}

-- the number with these halves
abbrev pub joined : ℕ → ℕ → ℕ
joined low high = low + 2 ^ 32 * high

-- the number with these parts, the lowest first
abbrev pub of_limbs : ℕ → ℕ → ℕ → ℕ → ℕ
of_limbs a b c d = joined a b + 2 ^ 64 * joined c d

-- each part is one of 32 bits
pub record AreLimbs (a b c d : ℕ) : Type 0 where
  pub first : a < 2 ^ 32
  pub second : b < 2 ^ 32
  pub third : c < 2 ^ 32
  pub fourth : d < 2 ^ 32

pub record GiveBack (a b c d : ℕ) : Type 0 where
  pub first : of_limbs a b c d % 2 ^ 32 ≡ a
  pub second : of_limbs a b c d / 2 ^ 32 % 2 ^ 32 ≡ b
  pub third : of_limbs a b c d / 2 ^ 64 % 2 ^ 32 ≡ c
  pub fourth : of_limbs a b c d / 2 ^ 96 ≡ d

-- a number gives its parts back
pub inverse_is : (a b c d : ℕ) → AreLimbs a b c d → GiveBack a b c d
inverse_is a b c d h = record {
  first = omega arith;
  second = omega arith;
  third = omega arith;
  fourth = omega arith;
}
