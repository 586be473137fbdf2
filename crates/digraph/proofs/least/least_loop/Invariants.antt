use Rattle.std.proofs.Common.{ℕ, ◌<◌}
use Rattle.digraph.specs.Graphs.{Reaches}
use Rattle.digraph.proofs.least.least_loop.Given as goal

abbrev pub invariant-loop-node : goal.invariant-loop-node
invariant-loop-node l = (n : ℕ) → n < l.node → Reaches l.graph n n → ⊥
