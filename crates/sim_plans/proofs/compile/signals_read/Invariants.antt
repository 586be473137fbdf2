use Rattle.std.proofs.Common.{◌≡◌, ◌<◌, ℕ, true, get_or, Some}
use Rattle.std.specs.Prelude.{slice_get}
use Rattle.design_ir.specs.declared.expr.Expr as expr
use Rattle.design_ir.specs.declared.ids.SigId.{SigId}
use Rattle.design_ir.specs.Circuits.{is_among}
use Rattle.sim_plans.specs.Compiled.{HoldsSignal}
use Rattle.sim_plans.specs.Driven.{numbers_of}
use Rattle.sim_plans.proofs.compile.signals_read.Given as goal

abbrev pub invariant-loop-i : goal.invariant-loop-i
invariant-loop-i l = record {
  all : (j : ℕ) (s : SigId) → j < l.i → slice_get l.design.pool.exprs (get_or l.values.list j 0) ≡ Some (expr.TheVariants.Sig s) → is_among (numbers_of l.list) s.0 ≡ true;
  only : (s : ℕ) → is_among (numbers_of l.list) s ≡ true → HoldsSignal l.design.pool l.values.marks s;
}
