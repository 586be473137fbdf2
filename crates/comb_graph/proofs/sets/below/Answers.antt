use Rattle.comb_graph.proofs.SetLaws.{all_below, kept_below}
use Rattle.comb_graph.proofs.sets.below.Goals as goal

pub returns-then-width-ge128 : goal.returns-then-width-ge128
returns-then-width-ge128 c = λ k. all_below c.args.set c.args.width k c.ranges.set.fits c.if-width-ge128.true

pub returns-else-width-ge128 : goal.returns-else-width-ge128
returns-else-width-ge128 c = λ k. kept_below c.args.set c.args.width k c.if-width-ge128.false
