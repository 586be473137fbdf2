use Rattle.std.proofs.Common.{◌≡◌, ◌++◌, map}
use Rattle.std.specs.List.{range_with_len}
use Rattle.cell_split.specs.Needs.{node_behind}
use Rattle.cell_split.proofs.spec_nodes.push_bits.Given as goal

abbrev pub invariant-loop-k : goal.invariant-loop-k
invariant-loop-k l = l.nodes.items ≡ l.fn.nodes.items ++ map (node_behind l.all l.first) (range_with_len l.low l.k)
