use Rattle.std.proofs.Common.{◌≡◌, ◌<◌, All, length}
use Rattle.digraph.proofs.cut.turns.Given as goal

abbrev pub invariant-loop-turn : goal.invariant-loop-turn
invariant-loop-turn l = record {
  turns : length l.turns.items ≡ l.graph.size;
  counts : length l.counts.items ≡ l.graph.size;
  free : All (λ n. n < l.graph.size) l.free.items;
}
