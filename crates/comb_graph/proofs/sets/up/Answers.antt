use Rattle.comb_graph.proofs.SetLaws.{moved_up}
use Rattle.comb_graph.proofs.sets.up.Goals as goal

pub returns-else-by-ge128 : goal.returns-else-by-ge128
returns-else-by-ge128 c = λ k. moved_up c.args.set c.args.by k c.requires
