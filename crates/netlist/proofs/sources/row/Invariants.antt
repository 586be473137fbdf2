use Rattle.netlist.specs.Tables.{IsRow}
use Rattle.netlist.proofs.sources.row.Given as goal

abbrev pub invariant-loop-i : goal.invariant-loop-i
invariant-loop-i l = IsRow l.design l.clocked l.s.0 l.i l.row.items
