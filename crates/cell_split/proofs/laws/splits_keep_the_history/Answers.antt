use Rattle.cell_split.proofs.Histories.{splits_keep_history}
use Rattle.cell_split.proofs.laws.splits_keep_the_history.Goals as goal

pub returns : goal.returns
returns c = splits_keep_history
