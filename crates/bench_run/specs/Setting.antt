-- The number of an input of which some bits take a number.
-- Source: Amaranth user guide 0.5, "Simulator", testbenches: what is set is wrapped.
use Rattle.std.specs.Prelude.{ℕ, ◌+◌, ◌-◌, ℤ}
use Rattle.amh_bits.specs.BitVectors.{BitVector, bits_of, sliced, joined}
use Rattle.amh_bits.specs.Patterns.{number}
use Rattle.shape_rules.specs.Forms.{Form}
use Rattle.bench_acts.specs.declared.targets.InputBits.{InputBits}

-- the bits below, the new ones, and the bits above
abbrev pub bits_put : BitVector → (low : ℕ) → BitVector → BitVector
bits_put old low new = joined (joined (sliced 0 low old) new) (sliced (low + new.width) (old.width - (low + new.width)) old)

abbrev pub number_of : Form → BitVector → ℤ
number_of f b = number f.signed b.width b.bits

-- the number of a signal of this shape that had this number
abbrev pub number_with : Form → InputBits → (old new : ℤ) → ℤ
number_with f bits old new = number_of f (bits_put (bits_of f.width old) bits.low (bits_of bits.width new))
