use Rattle.comb_graph.proofs.OneHistory.{one_history}
use Rattle.comb_graph.proofs.laws.ordered_have_one_history.Goals as goal

pub returns : goal.returns
returns c = one_history
