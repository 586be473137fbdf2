use Rattle.std.proofs.Common.{ℕ, List, take, ◌++◌, length}
use Rattle.std.specs.List.{flat_map}
use Rattle.design_ir.specs.declared.ids.ExprId.{ExprId}
use Rattle.design_ir.specs.Targets.{target_signals}
use Rattle.flat_design.specs.Found.{AreFound}
use Rattle.flat_design.proofs.found.+add_target.Given as goal

abbrev pub decreases-add_target : goal.decreases-add_target
decreases-add_target l = l.target.0

abbrev pub invariant-loop-e : goal.invariant-loop-e
invariant-loop-e l = (ss : List ℕ) → AreFound (length l.design.pool.signals) ss l.initial.found.marks.items l.initial.found.signals
    → AreFound (length l.design.pool.signals) (ss ++ flat_map (λ (e : ExprId). target_signals l.design.pool e.0) (take l.e-index l.e-items)) l.found.marks.items l.found.signals
