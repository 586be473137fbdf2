use Rattle.cell_split.proofs.Rules.{splits_keep_rules}
use Rattle.cell_split.proofs.laws.splits_keep_the_rules.Goals as goal

pub returns : goal.returns
returns c = splits_keep_rules
