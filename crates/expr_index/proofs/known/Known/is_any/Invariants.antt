use Rattle.std.proofs.Common.{◌≡◌, drop, false}
use Rattle.std.specs.Prelude.{slice_index_or}
use Rattle.std.specs.List.{list_any}
use Rattle.design_ir.specs.declared.ids.ExprId.{ExprId}
use Rattle.expr_index.proofs.known.Known.is_any.Given as goal

abbrev pub invariant-loop-id : goal.invariant-loop-id
invariant-loop-id l = list_any (λ (k : ExprId). slice_index_or l.self.resets k.0 false) (drop l.id-index l.id-items) ≡ list_any (λ (k : ExprId). slice_index_or l.self.resets k.0 false) l.ids
