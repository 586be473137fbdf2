use Rattle.std.proofs.Common.{◌≡◌, map, take}
use Rattle.std.specs.List.{filter}
use Rattle.digraph.specs.Depths.{is_counted}
use Rattle.comb_graph.specs.CombNodes.{bit_at}
use Rattle.comb_graph.specs.Rankings.{bit_of}
use Rattle.comb_graph.proofs.ranking.bits_among.Given as goal

abbrev pub invariant-loop-node : goal.invariant-loop-node
invariant-loop-node l = map bit_of l.bits ≡ map bit_at (filter (is_counted l.counted) (take l.node-index l.order))
