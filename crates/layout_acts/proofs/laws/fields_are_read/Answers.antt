use Rattle.layout_acts.proofs.ReadLaws as laws
use Rattle.layout_acts.proofs.laws.fields_are_read.Goals as goal

pub returns : goal.returns
returns c = laws.fields_are_read
