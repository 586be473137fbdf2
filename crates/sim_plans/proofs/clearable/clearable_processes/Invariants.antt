use Rattle.std.proofs.Common.{◌≡◌, filter}
use Rattle.std.specs.List.{range_with_len}
use Rattle.sim_plans.specs.Plans.{is_clearable}
use Rattle.sim_plans.proofs.clearable.clearable_processes.Given as goal

abbrev pub invariant-loop-k : goal.invariant-loop-k
invariant-loop-k l = l.list ≡ filter (is_clearable l.design) (range_with_len 0 l.k)
