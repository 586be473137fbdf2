use Rattle.std.proofs.Common.{◌<◌}
use Rattle.cell_split.proofs.nodes.Nodes.of.Given as goal

abbrev pub invariant-loop-wire : goal.invariant-loop-wire
invariant-loop-wire l = l.spare < l.count
