use Rattle.comb_graph.specs.CombNodes.{bit_at}
use Rattle.comb_graph.proofs.SeenLaws.{chosen_none, chosen_some}
use Rattle.comb_graph.proofs.aimed.chosen.Goals as goal

pub returns-then-set-eq0 : goal.returns-then-set-eq0
returns-then-set-eq0 c = chosen_none (bit_at c.args.node) c.args.set c.below-set.result c.args.width c.below-set.ensures c.if-set-eq0.true

pub returns : goal.returns
returns c = chosen_some (bit_at c.args.node) c.args.set c.below-set.result c.args.width c.below-set.ensures c.below-set.type_inv c.if-set-eq0.false
