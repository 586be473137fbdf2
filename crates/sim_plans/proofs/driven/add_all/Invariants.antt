use Rattle.std.proofs.Common.{◌≡◌, ◌++◌, drop}
use Rattle.sim_plans.proofs.driven.add_all.Given as goal

abbrev pub invariant-loop-s : goal.invariant-loop-s
invariant-loop-s l = l.signals ++ drop l.s-index l.more ≡ l.fn.signals ++ l.more
