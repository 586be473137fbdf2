use Rattle.fragment_laws.proofs.GrowthLaws.{growth_keeps_meaning}
use Rattle.fragment_laws.proofs.laws.growth_keeps_meaning.Goals as goal

pub returns : goal.returns
returns c = growth_keeps_meaning
