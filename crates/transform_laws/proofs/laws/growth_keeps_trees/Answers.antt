use Rattle.transform_laws.proofs.GrowthLaws.{grown_trees}
use Rattle.transform_laws.proofs.laws.growth_keeps_trees.Goals as goal

pub returns : goal.returns
returns c = grown_trees
