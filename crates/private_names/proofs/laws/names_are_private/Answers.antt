use Rattle.private_names.proofs.Outside.{program_outside}
use Rattle.private_names.proofs.Samples.{private_names, other_names, classes_are_rewritten}
use Rattle.private_names.proofs.laws.names_are_private.Goals as goal

pub returns : goal.returns
returns c = record { stays = program_outside; private = private_names; other = other_names; classes = classes_are_rewritten }
