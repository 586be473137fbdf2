use Rattle.domain_transforms.proofs.EnableLaws.{others_stay, registers_keep}
use Rattle.domain_transforms.proofs.laws.enables_keep_registers.Goals as goal

pub returns-clause-controlled : goal.returns-clause-controlled
returns-clause-controlled c = registers_keep

pub returns-clause-others : goal.returns-clause-others
returns-clause-others c = others_stay
