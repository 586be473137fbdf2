use Rattle.std.proofs.Common.{◌≡◌, ◌++◌, drop}
use Rattle.elab_wiring.specs.Connections.{over}
use Rattle.elab_wiring.proofs.connecting.over.Given as goal

abbrev pub invariant-loop-i : goal.invariant-loop-i
invariant-loop-i l = l.all ++ over (drop l.i l.leaves) (drop l.i l.ends) ≡ over l.leaves l.ends
