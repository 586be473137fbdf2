-- A reset that becomes, in its own place, the signal that it is. (Amaranth guide: Clock domains, `ResetSignal`.)
use Rattle.std.specs.Prelude.{◌≡◌, ℕ, List, slice_get, slice_set, Some}
use Rattle.amh_host.specs.declared.place.Place.{Place}
use Rattle.design_ir.specs.declared.ids.SigId.{SigId}
use Rattle.design_ir.specs.declared.expr.Expr as expr
use Rattle.design_ir.specs.declared.expr.Expr.TheVariants.{Reset}
use Rattle.design_ir.specs.Pools.{Pooled}

-- the expression of this number is a reset
pub record IsResetAt (p : Pooled) (k : ℕ) : Type 0 where
  pub domain : List ℕ
  pub place : Place
  pub stands : slice_get p.exprs k ≡ Some (Reset domain place)

abbrev pub reset_placed : Pooled → ℕ → SigId → Pooled
reset_placed p k s = record p { exprs = slice_set p.exprs k (expr.TheVariants.Sig s) }
