-- The first number of an expression among those of a pool, and in which of them a reset stands.
-- (Internal: no rule of the language.)
use Rattle.std.specs.Prelude.{ℕ, Bool, true, false, List, Option}
use Rattle.std.specs.List.{list_any, position}
use Rattle.design_ir.specs.declared.ids.ExprId.{ExprId}
use Rattle.design_ir.specs.declared.expr.Expr.{Expr}
use Rattle.design_ir.specs.declared.expr.Expr.TheVariants.{Reset}
use Rattle.design_ir.specs.Named.{named}
use Rattle.design_ir.specs.Pools.{answer}
use Rattle.expr_index.specs.Same.{same}

abbrev pub first_number : List Expr → Expr → Option ℕ
first_number es e = position (λ x. same x e) es

-- a reset, or an expression in which one stands
abbrev pub reset_step : (ℕ → Bool) → Expr → Bool
reset_step holds (Reset domain place) = true
reset_step holds e = list_any (λ (k : ExprId). holds k.0) (named e)

-- a reset stands in expression k
abbrev pub has_reset : List Expr → ℕ → Bool
has_reset es k = answer false reset_step es k
