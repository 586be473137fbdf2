use Rattle.rtlil_text.proofs.TextOnce.{Reads-once}
use Rattle.rtlil_text.proofs.laws.texts_stand_for_one_module.Goals as goal

pub returns : goal.returns
returns c = Reads-once
