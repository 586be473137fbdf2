use Rattle.flat_design.proofs.FlatHistories.{flat_has_the_history}
use Rattle.flat_design.proofs.laws.flat_has_the_history.Goals as goal

pub returns : goal.returns
returns c = flat_has_the_history
