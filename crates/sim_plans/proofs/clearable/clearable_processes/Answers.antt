use Rattle.std.proofs.Common.{◌∙◌, sym}
use Rattle.sim_plans.specs.Plans.{is_clearable}
use Rattle.sim_plans.proofs.Clearing.{listed_more, listed_same}
use Rattle.sim_plans.proofs.clearable.clearable_processes.Goals as goal
use Rattle.sim_plans.proofs.clearable.clearable_processes.Goals.{then-is_clearable+in_ok-push, else-is_clearable}

pub loop-k-preserved : goal.loop-k-preserved
loop-k-preserved c =
    let d = c.args.design.now in
    let k = c.loop-k.k in
    elim c.if-is_clearable.branch [
      | then-is_clearable+in_ok-push w ↦ listed_more (is_clearable d) k c.loop-k.list c.if-is_clearable.list (sym c.is_clearable.ensures ∙ w.if-is_clearable.true) (w.list-is ∙ w.in_ok-push.ensures.ok) c.loop-k.invariant
      | else-is_clearable w ↦ w.list-is ∙ listed_same (is_clearable d) k c.loop-k.list (sym c.is_clearable.ensures ∙ w.if-is_clearable.false) c.loop-k.invariant
    ]
