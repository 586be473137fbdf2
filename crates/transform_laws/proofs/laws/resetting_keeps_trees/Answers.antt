use Rattle.transform_laws.proofs.ResetTrees.{reset_trees}
use Rattle.transform_laws.proofs.laws.resetting_keeps_trees.Goals as goal

pub returns : goal.returns
returns c = reset_trees
