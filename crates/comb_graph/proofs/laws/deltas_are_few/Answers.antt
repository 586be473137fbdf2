use Rattle.comb_graph.proofs.FewDeltas.{few_deltas}
use Rattle.comb_graph.proofs.laws.deltas_are_few.Goals as goal

pub returns : goal.returns
returns c = few_deltas
