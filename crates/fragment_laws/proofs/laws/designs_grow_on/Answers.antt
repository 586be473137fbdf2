use Rattle.fragment_laws.proofs.GrowthLaws.{grows_on}
use Rattle.fragment_laws.proofs.laws.designs_grow_on.Goals as goal

pub returns : goal.returns
returns c = grows_on
