use Rattle.std.proofs.Common.{◌≡◌, drop}
use Rattle.sim_plans.specs.Driven.{numbers_of}
use Rattle.sim_plans.specs.Given.{marked}
use Rattle.sim_plans.proofs.given.mark.Given as goal

abbrev pub invariant-loop-s : goal.invariant-loop-s
invariant-loop-s l = marked (numbers_of (drop l.s-index l.signals)) l.given ≡ marked (numbers_of l.signals) l.fn.given
