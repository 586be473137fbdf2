use Rattle.domain_transforms.proofs.EnabledFragments.{fragments_keep, signals_stay}
use Rattle.domain_transforms.proofs.laws.enables_keep_fragments.Goals as goal

pub returns-clause-controlled : goal.returns-clause-controlled
returns-clause-controlled c = fragments_keep

pub returns-clause-others : goal.returns-clause-others
returns-clause-others c = signals_stay
