use Rattle.std.proofs.Common.{◌≡◌}
use Rattle.sim_plans.proofs.tables.all_items.Given as goal

abbrev pub invariant-loop-list : goal.invariant-loop-list
invariant-loop-list l = l.all ≡ l.yielded
