use Rattle.std.proofs.Common.{◌≡◌, take}
use Rattle.std.specs.List.{flat_map}
use Rattle.design_ir.specs.declared.ids.ExprId.{ExprId}
use Rattle.design_ir.specs.Targets.{target_signals}
use Rattle.fragment_walks.specs.Marks.{marked}
use Rattle.domain_transforms.proofs.driven.+mark_target.Given as goal

abbrev pub decreases-mark_target : goal.decreases-mark_target
decreases-mark_target l = l.target.0

abbrev pub invariant-loop-e : goal.invariant-loop-e
invariant-loop-e l = l.marks.items ≡ marked (flat_map (λ (e : ExprId). target_signals l.pool e.0) (take l.e-index l.e-items)) l.initial.marks.items
