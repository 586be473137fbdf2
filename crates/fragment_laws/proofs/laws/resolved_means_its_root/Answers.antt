use Rattle.fragment_laws.proofs.ResolvedLaws.{resolved_means_its_root}
use Rattle.fragment_laws.proofs.laws.resolved_means_its_root.Goals as goal

pub returns : goal.returns
returns c = resolved_means_its_root
