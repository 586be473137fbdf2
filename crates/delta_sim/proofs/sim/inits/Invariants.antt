use Rattle.std.proofs.Common.{◌≡◌, ◌++◌, drop}
use Rattle.sim_plans.proofs.TargetsInside.{inits}
use Rattle.delta_sim.proofs.sim.inits.Given as goal

abbrev pub invariant-loop-s : goal.invariant-loop-s
invariant-loop-s l = l.inits.items ++ inits (drop l.s l.design.pool.signals) ≡ inits l.design.pool.signals
