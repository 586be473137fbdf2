-- Names within classes, computed.
use Rattle.std.proofs.Common.{refl}
use Rattle.private_names.specs.Names.{mangled_name}
use Rattle.private_names.specs.Laws.{PrivateNames, OtherNames, ClassesAreRewritten}

pub private_names : PrivateNames
unfolding mangled_name
private_names = (refl, refl, refl, refl)

pub other_names : OtherNames
unfolding mangled_name
other_names = (refl, refl, refl, refl, refl, refl)

pub classes_are_rewritten : ClassesAreRewritten
unfolding mangled_name
classes_are_rewritten = refl
