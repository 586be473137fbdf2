use Rattle.std.proofs.Common.{take}
use Rattle.lib_wiring.specs.Wiring.{first_leaves}
use Rattle.lib_wiring.specs.Places.{AreLinked}
use Rattle.lib_wiring.proofs.wires.link_all.Given as goal

abbrev pub invariant-loop-i : goal.invariant-loop-i
invariant-loop-i l = AreLinked l.pool.signals (first_leaves (take l.i l.first)) l.second l.links
