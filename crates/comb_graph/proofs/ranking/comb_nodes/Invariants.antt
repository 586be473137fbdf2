use Rattle.std.proofs.Common.{◌≡◌, ℕ, ◌<◌, length}
use Rattle.digraph.specs.Depths.{is_counted}
use Rattle.comb_graph.specs.CombNodes.{is_comb_node}
use Rattle.comb_graph.proofs.ranking.comb_nodes.Given as goal

abbrev pub invariant-loop-node : goal.invariant-loop-node
invariant-loop-node l = record {
  size : length l.counted.items ≡ l.node;
  each : (n : ℕ) → n < l.node → is_counted l.counted.items n ≡ is_comb_node l.design n;
}
