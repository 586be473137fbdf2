use Rattle.transform_laws.proofs.RenamedTrees.{renamed_trees}
use Rattle.transform_laws.proofs.laws.renaming_keeps_trees.Goals as goal

pub returns : goal.returns
returns c = renamed_trees
