-- Resets as the signals that they are: each one that a fragment holds becomes, in its own place, the signal of its domain's reset.
-- (Amaranth guide: Clock domains, `ResetSignal`. One that no fragment holds stays as it is and means nothing, which is this project's
-- own rule.)
use Rattle.std.specs.Prelude.{ℕ, suc, Bool, if◌then◌else◌, List, [], ◌∷◌, Option, Some, None, option_and_then}
use Rattle.std.specs.List.{find}
use Rattle.lists.specs.Texts.{text_eq}
use Rattle.design_ir.specs.declared.ids.ExprId.{ExprId}
use Rattle.design_ir.specs.declared.ids.SigId.{SigId}
use Rattle.design_ir.specs.declared.domain.Domain.{Domain}
use Rattle.design_ir.specs.declared.expr.Expr as expr
use Rattle.design_ir.specs.declared.expr.Expr.{Expr}
use Rattle.design_ir.specs.declared.expr.Expr.TheVariants.{Reset}
use Rattle.design_ir.specs.Pools.{Pooled}
use Rattle.fragment_walks.specs.Held.{is_within}

-- the signal of the reset of the domain with a name, where there is such a domain and it has a reset
abbrev pub reset_of : List Domain → List ℕ → Option SigId
reset_of domains name = option_and_then (λ (d : Domain). d.rst) (find (λ (d : Domain). text_eq d.name name) domains)

abbrev pub or_signal : Expr → Option SigId → Expr
or_signal e None = e
or_signal e (Some s) = expr.TheVariants.Sig s

abbrev pub placed_expr : List Domain → Expr → Expr
placed_expr domains (Reset name place) = or_signal (Reset name place) (reset_of domains name)
placed_expr domains e = e

-- of expressions that are numbered from k on, those that pass
abbrev pub placed_from : List Domain → (ℕ → Bool) → ℕ → List Expr → List Expr
placed_from domains passes k [] = []
placed_from domains passes k (e ∷ es) = (if passes k then placed_expr domains e else e) ∷ placed_from domains passes (suc k) es

-- those of these expressions, and those that stand in them
unfoldable pub placed_pool : List Domain → Pooled → List ExprId → Pooled
placed_pool domains q roots = record q { exprs = placed_from domains (is_within q roots) 0 q.exprs }
