-- Targets that stand for the same bits whatever the signals' numbers are, and statements with such targets alone.
use Rattle.std.specs.Prelude.{ℕ, ◌&&◌, Bool, true, false, List, [], ◌∷◌}
use Rattle.std.specs.List.{list_all}
use Rattle.design_ir.specs.declared.ids.ExprId.{ExprId}
use Rattle.design_ir.specs.declared.expr.Expr as expr
use Rattle.design_ir.specs.declared.expr.Expr.{Expr}
use Rattle.design_ir.specs.Pools.{Pooled, answer}
use Rattle.design_ir.specs.Trees.{assign, choose, Block, done, next}

-- ---- targets: signals, and slices, joins and readings of such

abbrev pub fixed_step : (ℕ → Bool) → Expr → Bool
fixed_step is (expr.TheVariants.Sig s) = true
fixed_step is (expr.TheVariants.Slice a low width) = is a.0
fixed_step is (expr.TheVariants.Cat es) = list_all (λ (e : ExprId). is e.0) es
fixed_step is (expr.TheVariants.Cast a signed) = is a.0
fixed_step is (expr.TheVariants.Part a offset width stride) = false
fixed_step is (expr.TheVariants.Pick index es) = false
fixed_step is (expr.TheVariants.Const n s) = false
fixed_step is (expr.TheVariants.Unary o a) = false
fixed_step is (expr.TheVariants.Binary o a b) = false
fixed_step is (expr.TheVariants.Mux s a b) = false
fixed_step is (expr.TheVariants.Matches a patterns) = false
fixed_step is (expr.TheVariants.Reset domain place) = false

unfoldable pub is_fixed : Pooled → ℕ → Bool
is_fixed pool k = answer false fixed_step pool.exprs k

-- no choice, and each target is fixed
abbrev pub is_plain : Pooled → Block → Bool
is_plain pool done = true
is_plain pool (next (assign target source place) rest) = is_fixed pool target.0 && is_plain pool rest
is_plain pool (next (choose arms) rest) = false
