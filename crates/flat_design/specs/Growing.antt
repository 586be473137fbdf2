-- A pool that has grown by expressions, and expressions of it that statements may read.
use Rattle.std.specs.Prelude.{◌≡◌, ◌<◌, false, List, ◌++◌, length}
use Rattle.design_ir.specs.declared.ids.ExprId.{ExprId}
use Rattle.design_ir.specs.declared.expr.Expr.{Expr}
use Rattle.design_ir.specs.Pools.{Pooled}
use Rattle.design_ir.specs.Designs.{holds_reset}

-- the same signals, and behind the expressions that were there more of them
pub record IsMore (p q : Pooled) : Type 0 where
  pub signals : q.signals ≡ p.signals
  pub more : List Expr
  pub exprs : q.exprs ≡ p.exprs ++ more

-- an expression of the pool in which no reset stands
pub record IsReadable (p : Pooled) (e : ExprId) : Type 0 where
  pub there : e.0 < length p.exprs
  pub resolved : holds_reset p e.0 ≡ false
