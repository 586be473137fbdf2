use Rattle.design_ir.proofs.AimLaws.{signals_choose}
use Rattle.design_ir.proofs.ChoiceLaws.{places_are}
use Rattle.design_ir.proofs.laws.places_are_aims.Goals as goal

pub returns-clause-chosen : goal.returns-clause-chosen
returns-clause-chosen c = signals_choose

pub returns-clause-aims : goal.returns-clause-aims
returns-clause-aims c = λ p rules k b j h. places_are p rules h.chosen b j h.here
