use Rattle.design_ir.proofs.AimLaws.{aims_placed}
use Rattle.design_ir.proofs.SpotLaws.{aims_stand, fixed_aims_stay}
use Rattle.design_ir.proofs.laws.aims_are_places.Goals as goal

pub returns-clause-places : goal.returns-clause-places
returns-clause-places c = aims_placed

pub returns-clause-stand : goal.returns-clause-stand
returns-clause-stand c = aims_stand

pub returns-clause-fixed : goal.returns-clause-fixed
returns-clause-fixed c = fixed_aims_stay
