use Rattle.std.proofs.Common.{◌≡◌, ◌++◌, ◌-◌}
use Rattle.rtlil_text.specs.Cells.{number_bits}
use Rattle.netlist_cells.proofs.parts.number_bits.Given as goal

abbrev pub invariant-loop-i : goal.invariant-loop-i
invariant-loop-i l = l.bits ++ number_bits (l.width - l.i) l.rest ≡ number_bits l.width l.number
