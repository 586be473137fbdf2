use Rattle.std.proofs.Common.{◌≡◌, ◌-◌, ℕ, Bool, true, length}
use Rattle.design_ir.specs.Targets.{is_target}
use Rattle.sim_plans.specs.Marks.{is_marked, ReadOnly, Stays}
use Rattle.sim_plans.proofs.Spreading.{AimsDone}
use Rattle.sim_plans.proofs.spread.spread_all_aims.Given as goal

abbrev pub invariant-loop-i : goal.invariant-loop-i
invariant-loop-i l = record {
  aims : length l.aims.marks ≡ length l.design.pool.exprs;
  values : length l.values.marks ≡ length l.design.pool.exprs;
  aims_stay : Stays l.initial.aims.marks l.aims.marks;
  values_stay : Stays l.initial.values.marks l.values.marks;
  done : AimsDone l.design.pool l.i l.aims.list l.aims.marks l.values.marks;
  targets : (j : ℕ) → is_marked l.aims.marks j ≡ true → is_target l.design.pool j ≡ true;
  only : (r : ℕ → Bool) → ReadOnly l.design.pool l.initial.aims.marks l.initial.values.marks r → ReadOnly l.design.pool l.aims.marks l.values.marks r;
}

abbrev pub decreases-loop-i : goal.decreases-loop-i
decreases-loop-i l = length l.design.pool.exprs - l.i
