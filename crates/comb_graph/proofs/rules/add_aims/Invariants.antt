use Rattle.comb_graph.specs.Meanings.{Extends}
use Rattle.comb_graph.specs.Places.{bit_nodes}
use Rattle.comb_graph.specs.Rules.{AddsAims}
use Rattle.comb_graph.proofs.rules.add_aims.Given as goal

abbrev pub invariant-loop-aim : goal.invariant-loop-aim
invariant-loop-aim l = record {
  extends : Extends l.fn.graph l.graph (bit_nodes l.design.pool);
  aims : AddsAims l.fn.graph l.graph l.design.pool l.shared l.value l.aims l.aim-index;
}
