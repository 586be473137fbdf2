use Rattle.domain_transforms.proofs.ResetFragments.{fragments_take}
use Rattle.domain_transforms.proofs.laws.resets_give_fragments_inits.Goals as goal

pub returns : goal.returns
returns c = fragments_take
