use Rattle.std.proofs.Common.{◌++◌, drop}
use Rattle.sim_plans.specs.Driven.{IsLike, numbers_of}
use Rattle.sim_plans.proofs.targets.add_new.Given as goal

abbrev pub invariant-loop-s : goal.invariant-loop-s
invariant-loop-s l =
    IsLike (numbers_of l.signals ++ numbers_of (drop l.s-index l.s-items)) (numbers_of l.fn.signals ++ numbers_of l.more)
