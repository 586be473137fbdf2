use Rattle.transform_laws.proofs.GrowthLaws.{standing_trees}
use Rattle.transform_laws.proofs.laws.trees_stand_in_pools.Goals as goal

pub returns : goal.returns
returns c = standing_trees
