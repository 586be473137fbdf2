use Rattle.layout_acts.proofs.ReadLaws as laws
use Rattle.layout_acts.proofs.laws.items_are_chosen.Goals as goal

pub returns : goal.returns
returns c = laws.items_are_chosen
