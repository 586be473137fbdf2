use Rattle.comb_graph.proofs.ChainRounds.{rounds_settle}
use Rattle.comb_graph.proofs.laws.rounds_settle.Goals as goal

pub returns : goal.returns
returns c = λ circuit longest rules design chain st fit env. rounds_settle circuit rules design st fit longest env chain
