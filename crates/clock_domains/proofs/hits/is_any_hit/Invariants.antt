use Rattle.std.proofs.Common.{◌≡◌, false, take}
use Rattle.std.specs.List.{list_any}
use Rattle.design_ir.specs.declared.ids.ExprId.{ExprId}
use Rattle.fragment_walks.specs.Marks.{is_marked}
use Rattle.clock_domains.proofs.hits.is_any_hit.Given as goal

abbrev pub invariant-loop-e : goal.invariant-loop-e
invariant-loop-e l = list_any (λ (e : ExprId). is_marked l.hits e.0) (take l.e-index l.items) ≡ false
