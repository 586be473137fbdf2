use Rattle.design_ir.proofs.ClearedLaws.{resets_act}
use Rattle.design_ir.proofs.laws.resets_act.Goals as goal

pub returns : goal.returns
returns c = resets_act
