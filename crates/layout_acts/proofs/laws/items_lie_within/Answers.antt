use Rattle.layout_acts.proofs.WithinLaws as laws
use Rattle.layout_acts.proofs.laws.items_lie_within.Goals as goal

pub returns : goal.returns
returns c = laws.items_lie_within
