use Rattle.comb_graph.proofs.SetLaws.{all_gone, moved_down}
use Rattle.comb_graph.proofs.sets.down.Goals as goal

pub returns-then-by-ge128 : goal.returns-then-by-ge128
returns-then-by-ge128 c = λ k. all_gone c.args.set c.args.by k c.ranges.set.fits c.if-by-ge128.true

pub returns-else-by-ge128 : goal.returns-else-by-ge128
returns-else-by-ge128 c = λ k. moved_down c.args.set c.args.by k
