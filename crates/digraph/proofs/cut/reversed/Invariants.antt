use Rattle.std.proofs.Common.{◌≡◌, ℕ, ◌<◌}
use Rattle.digraph.specs.Graphs.{EdgeAt, Leads}
use Rattle.digraph.proofs.cut.reversed.Given as goal

abbrev pub invariant-loop-place : goal.invariant-loop-place
invariant-loop-place l = record {
  size : l.back.size ≡ l.graph.size;
  leads : (k a b : ℕ) → k < l.place → EdgeAt l.graph k a b → Leads l.back b a;
}
