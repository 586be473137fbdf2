use Rattle.fragment_laws.proofs.RootLaws.{designs_mean_their_roots}
use Rattle.fragment_laws.proofs.laws.designs_mean_their_roots.Goals as goal

pub returns : goal.returns
returns c = designs_mean_their_roots
