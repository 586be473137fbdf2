use Rattle.std.proofs.Common.{◌≡◌, ◌-◌, ℕ, Bool, length}
use Rattle.sim_plans.specs.Marks.{StandsOnly, Stays}
use Rattle.sim_plans.proofs.Spreading.{ValuesDone}
use Rattle.sim_plans.proofs.spread.spread_all_values.Given as goal

abbrev pub invariant-loop-i : goal.invariant-loop-i
invariant-loop-i l = record {
  values : length l.values.marks ≡ length l.design.pool.exprs;
  stay : Stays l.initial.values.marks l.values.marks;
  done : ValuesDone l.design.pool l.i l.values.list l.values.marks;
  only : (r : ℕ → Bool) → StandsOnly l.design.pool l.initial.values.marks r → StandsOnly l.design.pool l.values.marks r;
}

abbrev pub decreases-loop-i : goal.decreases-loop-i
decreases-loop-i l = length l.design.pool.exprs - l.i
