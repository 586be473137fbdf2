use Rattle.std.proofs.Common.{◌≡◌, ℕ, ◌<◌, true, length}
use Rattle.digraph.specs.Graphs.{Reaches}
use Rattle.digraph.specs.Cuts.{is_left}
use Rattle.digraph.proofs.cut.left.Given as goal

abbrev pub invariant-loop-node : goal.invariant-loop-node
invariant-loop-node l = record {
  size : length l.left.items ≡ l.node;
  loops : (n : ℕ) → n < l.node → Reaches l.graph n n → is_left l.left.items n ≡ true;
}
