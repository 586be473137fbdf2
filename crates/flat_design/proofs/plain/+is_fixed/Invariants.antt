use Rattle.std.specs.Prelude.{◌≡◌, true, take}
use Rattle.std.specs.List.{list_all}
use Rattle.design_ir.specs.declared.ids.ExprId.{ExprId}
use Rattle.design_ir.specs.Fixed.{is_fixed}
use Rattle.flat_design.proofs.plain.+is_fixed.Given as goal

abbrev pub decreases-is_fixed : goal.decreases-is_fixed
decreases-is_fixed l = l.target.0

abbrev pub invariant-loop-e : goal.invariant-loop-e
invariant-loop-e l = list_all (λ (e : ExprId). is_fixed l.design.pool e.0) (take l.e-index l.e-items) ≡ true
