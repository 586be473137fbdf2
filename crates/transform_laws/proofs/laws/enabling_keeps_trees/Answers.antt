use Rattle.transform_laws.proofs.EnabledTrees.{enabled_trees}
use Rattle.transform_laws.proofs.laws.enabling_keeps_trees.Goals as goal

pub returns : goal.returns
returns c = enabled_trees
