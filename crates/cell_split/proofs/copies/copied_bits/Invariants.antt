use Rattle.std.proofs.Common.{◌≡◌, take}
use Rattle.cell_split.proofs.copies.copied_bits.Given as goal

abbrev pub invariant-loop-bit : goal.invariant-loop-bit
invariant-loop-bit l = l.copy ≡ take l.bit-index l.bit-items
