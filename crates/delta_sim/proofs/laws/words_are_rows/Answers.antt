use Rattle.sim_plans.proofs.PortValues.{word_at}
use Rattle.delta_sim.proofs.laws.words_are_rows.Goals as goal

pub returns : goal.returns
returns c = word_at
