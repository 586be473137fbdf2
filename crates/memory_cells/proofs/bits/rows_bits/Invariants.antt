use Rattle.std.proofs.Common.{◌≡◌, take}
use Rattle.memory_cells.specs.Bits.{rows_bits}
use Rattle.memory_cells.proofs.bits.rows_bits.Given as goal

abbrev pub invariant-loop-row : goal.invariant-loop-row
invariant-loop-row l = l.bits ≡ rows_bits l.width (take l.row-index l.rows)
