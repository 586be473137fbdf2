use Rattle.std.proofs.Common.{◌≡◌, ◌++◌, ◌-◌}
use Rattle.rtlil_text.specs.Cells.{number_bits}
use Rattle.memory_cells.proofs.bits.push_number.Given as goal

abbrev pub invariant-loop-i : goal.invariant-loop-i
invariant-loop-i l = l.bits ++ number_bits (l.width - l.i) l.rest ≡ l.initial.bits ++ number_bits l.width l.number
