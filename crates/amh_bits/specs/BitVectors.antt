-- Bit vectors: a width, and the bits as a number whose lowest bit is the first.
-- Source: Amaranth language guide 0.5, Width extension, Bit sequence operators; at most 128 bits: own rule (docs/RULES.md).
use Rattle.std.specs.Prelude.{ℕ, ◌+◌, ◌*◌, ◌/◌, ◌%◌, ◌^◌, ◌<◌, ◌≤◌, Bool, ℤ}
use Rattle.amh_bits.specs.Patterns.{pattern, number}

pub record BitVector : Type 0 where
  pub width : ℕ
  pub bits : ℕ

-- at most 128 bits, and none above the width
abbrev pub IsBitVector : ℕ → ℕ → Type 0
IsBitVector width bits = (width ≤ 128) × (bits < 2 ^ width)

-- the low bits of an integer in two's complement
abbrev pub bits_of : ℕ → ℤ → BitVector
bits_of width z = record { width = width; bits = pattern width z }

-- the bits of both, `high` above `low`
abbrev pub joined : BitVector → BitVector → BitVector
joined low high = record { width = low.width + high.width; bits = high.bits * 2 ^ low.width + low.bits }

-- as many bits as the width says, from this place on
abbrev pub sliced : ℕ → ℕ → BitVector → BitVector
sliced place width v = record { width = width; bits = v.bits / 2 ^ place % 2 ^ width }

-- the bits of the number that the vector stands for, at another width
abbrev pub extended : Bool → ℕ → BitVector → BitVector
extended signed width v = bits_of width (number signed v.width v.bits)
