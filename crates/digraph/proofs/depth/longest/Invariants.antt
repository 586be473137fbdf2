use Rattle.std.proofs.Common.{◌≤◌, take}
use Rattle.digraph.specs.Depths.{AreDepths}
use Rattle.digraph.proofs.depth.longest.Given as goal

abbrev pub invariant-loop-node : goal.invariant-loop-node
invariant-loop-node l = record {
  depths : AreDepths l.graph l.counted (take l.node-index l.node-items) l.depths.items l.longest;
  small : l.longest ≤ l.node-index;
}
