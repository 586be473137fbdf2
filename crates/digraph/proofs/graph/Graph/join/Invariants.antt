use Rattle.std.proofs.Common.{◌≡◌, take}
use Rattle.digraph.specs.Graphs.{joined}
use Rattle.digraph.proofs.graph.Graph.join.Given as goal

abbrev pub invariant-loop-target : goal.invariant-loop-target
invariant-loop-target l = record {
  node : l.node ≡ l.fn.self.size;
  so_far : l.self ≡ joined l.fn.self (take l.target-index l.targets);
}
