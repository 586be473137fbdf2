use Rattle.layout_acts.proofs.WithinLaws as laws
use Rattle.layout_acts.proofs.laws.fields_lie_within.Goals as goal

pub returns : goal.returns
returns c = laws.fields_lie_within
