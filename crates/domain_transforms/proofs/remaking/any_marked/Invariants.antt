use Rattle.std.proofs.Common.{◌≡◌, drop}
use Rattle.std.specs.List.{list_any}
use Rattle.design_ir.specs.declared.ids.ExprId.{ExprId}
use Rattle.fragment_walks.specs.Marks.{is_marked}
use Rattle.domain_transforms.proofs.remaking.any_marked.Given as goal

abbrev pub invariant-loop-e : goal.invariant-loop-e
invariant-loop-e l = list_any (λ (e : ExprId). is_marked l.marks e.0) (drop l.e-index l.items) ≡ list_any (λ (e : ExprId). is_marked l.marks e.0) l.items
