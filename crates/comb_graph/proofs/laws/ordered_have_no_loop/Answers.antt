use Rattle.comb_graph.proofs.Positions.{no_loop}
use Rattle.comb_graph.proofs.laws.ordered_have_no_loop.Goals as goal

pub returns : goal.returns
returns c = λ circuit order ordered b loop. no_loop circuit order ordered b loop.0 loop.1
