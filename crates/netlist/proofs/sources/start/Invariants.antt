use Rattle.netlist_laws.specs.Module.{wire_id}
use Rattle.netlist.specs.Tables.{Shows, at_start}
use Rattle.netlist.proofs.sources.start.Given as goal

abbrev pub invariant-loop-i : goal.invariant-loop-i
invariant-loop-i l = Shows (wire_id l.design) l.i l.bits.items (at_start l.design)
