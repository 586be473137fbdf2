use Rattle.identifiers.proofs.NameLaws.{identifier_is_name}
use Rattle.identifiers.proofs.laws.identifiers_are_names.Goals as goal

pub returns : goal.returns
returns c = λ text h. identifier_is_name text h
