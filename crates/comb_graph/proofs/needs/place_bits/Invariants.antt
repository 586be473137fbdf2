use Rattle.comb_graph.specs.Places.{HasBits}
use Rattle.comb_graph.proofs.needs.place_bits.Given as goal

abbrev pub invariant-loop-k : goal.invariant-loop-k
invariant-loop-k l = HasBits l.fn.graph l.graph l.design.pool l.fn.e.0 l.k
