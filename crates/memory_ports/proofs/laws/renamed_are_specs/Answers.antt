use Rattle.memory_ports.proofs.Renames.{renames_stay}
use Rattle.memory_ports.proofs.laws.renamed_are_specs.Goals as goal

pub returns : goal.returns
returns c = renames_stay
