use Rattle.sim_plans.specs.Driven.{AreTargets}
use Rattle.sim_plans.proofs.targets.all_targets.Given as goal

abbrev pub invariant-loop-k : goal.invariant-loop-k
invariant-loop-k l = AreTargets l.design.pool l.k l.all.items
