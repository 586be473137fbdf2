use Rattle.domain_transforms.proofs.ResetLaws.{others_stay, resets_take}
use Rattle.domain_transforms.proofs.laws.resets_give_inits.Goals as goal

pub returns-clause-controlled : goal.returns-clause-controlled
returns-clause-controlled c = resets_take

pub returns-clause-others : goal.returns-clause-others
returns-clause-others c = others_stay
