use Rattle.std.proofs.Common.{◌≡◌, length}
use Rattle.comb_graph.specs.Meanings.{Extends, KeepsSignals}
use Rattle.comb_graph.specs.Places.{HasPlaces, bit_nodes}
use Rattle.comb_graph.proofs.needs.place_all.Given as goal

abbrev pub invariant-loop-e : goal.invariant-loop-e
invariant-loop-e l = record {
  places : HasPlaces l.graph l.design.pool l.firsts;
  count : length l.firsts ≡ l.e;
  signals : KeepsSignals l.fn.graph l.graph (bit_nodes l.design.pool);
  extends : Extends l.fn.graph l.graph (bit_nodes l.design.pool);
}
