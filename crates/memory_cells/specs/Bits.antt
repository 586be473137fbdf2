-- Bits as truth values.
-- Source: Amaranth guide, Shapes (integers as bits in two's complement).
use Rattle.std.specs.Prelude.{ℕ, ◌==◌, Bool, List, ℤ}
use Rattle.std.specs.List.{flat_map}
use Rattle.amh_bits.specs.Patterns.{pattern, nat_bit, int_bit}
use Rattle.rtlil_text.specs.Cells.{number_bits}

-- bit k of an integer
abbrev pub bit_of : ℤ → ℕ → Bool
bit_of z k = int_bit z k == 1

-- bit k of a number
abbrev pub is_set : ℕ → ℕ → Bool
is_set n k = nat_bit n k == 1

-- the bits of an integer at a width, the lowest first
abbrev pub row_bits : ℕ → ℤ → List Bool
row_bits width z = number_bits width (pattern width z)

-- the bits of rows one after another, those of the first row the lowest
abbrev pub rows_bits : ℕ → List ℤ → List Bool
rows_bits width rows = flat_map (row_bits width) rows
