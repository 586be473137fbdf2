use Rattle.fragment_laws.proofs.GrowthNeeds.{growth_keeps_needs}
use Rattle.fragment_laws.proofs.laws.growth_keeps_needs.Goals as goal

pub returns : goal.returns
returns c = growth_keeps_needs
