use Rattle.comb_graph.proofs.SettledOnce.{settles_once}
use Rattle.comb_graph.proofs.laws.ordered_settle_once.Goals as goal

pub returns : goal.returns
returns c = settles_once
