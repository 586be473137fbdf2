use Rattle.std.proofs.Common.{◌≡◌}
use Rattle.netlist.proofs.lowering.items_of.Given as goal

abbrev pub invariant-loop-x : goal.invariant-loop-x
invariant-loop-x g l = l.items ≡ l.yielded
