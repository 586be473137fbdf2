use Rattle.std.proofs.Common.{◌≡◌, ◌<◌, All, length}
use Rattle.digraph.specs.Graphs.{IsRest}
use Rattle.digraph.proofs.cut.release_all.Given as goal

abbrev pub invariant-loop-rest : goal.invariant-loop-rest
invariant-loop-rest l = record {
  is_rest : IsRest l.graph l.from l.rest;
  size : length l.counts ≡ l.graph.size;
  free : All (λ n. n < l.graph.size) l.free.items;
}

abbrev pub decreases-loop-rest : goal.decreases-loop-rest
decreases-loop-rest l = l.rest
