use Rattle.layout_acts.proofs.ReadLaws as laws
use Rattle.layout_acts.proofs.laws.fields_are_targets.Goals as goal

pub returns-clause-fields : goal.returns-clause-fields
returns-clause-fields c = laws.fields_are_targets

pub returns-clause-items : goal.returns-clause-items
returns-clause-items c = laws.items_are_targets
