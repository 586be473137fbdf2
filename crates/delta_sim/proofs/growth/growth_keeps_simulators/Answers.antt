use Rattle.delta_sim.proofs.GrowthLaws.{growth_keeps_simulators}
use Rattle.delta_sim.proofs.growth.growth_keeps_simulators.Goals as goal

pub returns : goal.returns
returns c = growth_keeps_simulators
