use Rattle.std.proofs.Common.{◌≡◌, ◌≤◌, All, length}
use Rattle.digraph.proofs.cut.counts.Given as goal

abbrev pub invariant-loop-place : goal.invariant-loop-place
invariant-loop-place l = record {
  size : length l.counts.items ≡ l.graph.size;
  few : All (λ c. c ≤ l.place) l.counts.items;
}
