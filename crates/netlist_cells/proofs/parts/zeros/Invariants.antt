use Rattle.std.proofs.Common.{◌≡◌, ◌++◌, ◌-◌, replicate, false}
use Rattle.netlist_cells.proofs.parts.zeros.Given as goal

abbrev pub invariant-loop-i : goal.invariant-loop-i
invariant-loop-i l = l.bits ++ replicate (l.count - l.i) false ≡ replicate l.count false
