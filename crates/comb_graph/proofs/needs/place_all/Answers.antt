use Rattle.std.proofs.Common.{◌∙◌, ◌+◌, ap}
use Rattle.comb_graph.specs.Places.{bit_nodes}
use Rattle.comb_graph.proofs.GraphMeanings.{extends_then}
use Rattle.comb_graph.proofs.needs.place_all.Goals as goal

pub loop-e-preserved : goal.loop-e-preserved
loop-e-preserved c = record {
  places = c.in_ok-place.ensures.places;
  count = c.in_ok-place.ensures.count ∙ ap (λ n. n + 1) c.loop-e.invariant.count;
  signals = λ a b below leads. c.loop-e.invariant.signals a b below (c.in_ok-place.ensures.signals a b below leads);
  extends = extends_then c.args.graph.now c.loop-e.graph c.place.new.graph (bit_nodes c.args.design.now.pool) c.loop-e.invariant.extends c.in_ok-place.ensures.extends;
}
