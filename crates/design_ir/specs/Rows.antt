-- The rows of memories: what is read and what is written.
use Rattle.std.specs.Prelude.{ℕ, zero, suc, ◌+◌, ◌-◌, ◌*◌, ◌/◌, ◌%◌, ◌^◌, ◌==◌, if◌then◌else◌, bit_and, ℤ, List, unsigned_abs}
use Rattle.amh_bits.specs.Integers.{bits_without}
use Rattle.amh_bits.specs.Patterns.{pattern, number}
use Rattle.design_ir.specs.declared.ids.ExprId.{ExprId}
use Rattle.design_ir.specs.declared.memory.MemWrite.{MemWrite}
use Rattle.design_ir.specs.declared.memory.Memory.{Memory}
use Rattle.design_ir.specs.Pools.{Pooled}
use Rattle.design_ir.specs.Values.{num}
use Rattle.design_ir.specs.Circuits.{at}

-- the row that an address names
abbrev pub address : Pooled → List ℤ → ExprId → ℕ
address pool env addr = unsigned_abs (num pool env addr.0)

-- the row at an address, 0 past the depth
abbrev pub row_at : Pooled → List ℤ → List ℤ → ExprId → ℤ
row_at pool env rows addr = at rows (address pool env addr)

-- how many bits the enable of a write port has: one for each granule, and one where the whole row is one
abbrev pub granules : Memory → MemWrite → ℕ
granules m w = if w.granularity == m.shape.width then 1 else m.shape.width / w.granularity

-- the bits that an enable lets through: each of its bits stands for `granule` bits
abbrev pub enabled : ℕ → ℕ → ℕ → ℕ
enabled granule zero bits = 0
enabled granule (suc count) bits = bits % 2 * (2 ^ granule - 1) + 2 ^ granule * enabled granule count (bits / 2)

abbrev pub enabled_bits : Pooled → List ℤ → Memory → MemWrite → ℕ
enabled_bits pool env m w = enabled w.granularity (granules m w) (pattern (granules m w) (num pool env w.enable.0))

-- an old row after a write port: the enabled bits are those of its word
abbrev pub written : Pooled → List ℤ → Memory → ℤ → MemWrite → ℤ
written pool env m old w =
    let mask : ℕ = enabled_bits pool env m w in
    let word : ℕ = pattern m.shape.width (num pool env w.word.0) in
    number m.shape.signed m.shape.width (bits_without (pattern m.shape.width old) mask + bit_and word mask)
