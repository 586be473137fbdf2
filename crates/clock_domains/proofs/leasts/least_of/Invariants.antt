use Rattle.std.proofs.Common.{◌≡◌, ℕ, take}
use Rattle.std.specs.List.{list_any}
use Rattle.design_ir.specs.declared.ids.ExprId.{ExprId}
use Rattle.fragment_walks.specs.Marks.{is_marked}
use Rattle.fragment_walks.specs.Numbers.{bounded, is_below}
use Rattle.clock_domains.proofs.leasts.least_of.Given as goal

abbrev pub invariant-loop-e : goal.invariant-loop-e
invariant-loop-e l = (i : ℕ) → is_below i l.least ≡ list_any (λ (e : ExprId). is_marked (bounded i l.leasts) e.0) (take l.e-index l.items)
