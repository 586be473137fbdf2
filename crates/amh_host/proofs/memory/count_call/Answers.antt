use Rattle.std.proofs.Common.{◌∷◌, [], ◌∙◌, List, get_or, sym, ap}
use Rattle.std.specs.Prelude.{slice_set}
use Rattle.std.proofs.lemmas.List.Edits.{map_over_more}
use Rattle.amh_host.specs.declared.memory.Planned.{Planned}
use Rattle.amh_host.specs.Planned.{counted, comes_due}
use Rattle.amh_host.proofs.PlannedLaws.{due_turn, mapped_here}
use Rattle.amh_host.proofs.memory.count_call.Goals as goal

pub loop-i-preserved : goal.loop-i-preserved
loop-i-preserved c =
    let f = counted c.args.call c.args.name.now in
    let x = c.index-plan-i.result in
    let here = mapped_here f c.args.plan.now c.loop-i.i x c.loop-i-test.true (c.index-plan-i.is ∙ ap (λ (ys : List Planned). get_or ys c.loop-i.i x) c.loop-i.invariant.plan) in
    record {
      due = due_turn c.args.call c.args.name.now c.args.plan.now c.loop-i.i x c.loop-i.due c.count_entry-due.result _ c.loop-i-test.true here (c.count_entry-due.ensures.due ∙ ap (λ (y : Planned). comes_due c.args.call c.args.name.now (y ∷ [])) (sym c.index-plan-i.is)) c.loop-i.invariant.due;
      plan = ap (slice_set c.loop-i.plan c.loop-i.i) (c.count_entry-due.ensures.counted ∙ ap f (sym c.index-plan-i.is)) ∙ map_over_more f c.args.plan.now c.loop-i.plan c.loop-i.i x c.loop-i-test.true c.loop-i.invariant.plan c.index-plan-i.is;
    }
