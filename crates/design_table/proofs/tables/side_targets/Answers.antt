use Rattle.std.proofs.Common.{◌∙◌, ap, List, Bool}
use Rattle.design_table.specs.Tests.{is_at, is_own, side_step}
use Rattle.design_table.proofs.Marks.{marks_turn}
use Rattle.design_table.proofs.tables.side_targets.Goals as goal

pub loop-k-preserved : goal.loop-k-preserved
loop-k-preserved c =
    let step = side_step (is_own c.args.ports.now c.args.sides.now c.args.side) in
    let e = c.at-e.result.now in
    let is = c.is_side_target-is_target.ensures ∙ ap (λ (ms : List Bool). step (is_at ms) e) c.as_slice.ensures.value in
    marks_turn step c.loop-k.marks.items c.push.new.self.items c.args.pool.now.exprs c.loop-k.k e c.is_side_target-is_target.result c.loop-k.invariant c.at-e.ensures is c.in_ok-push.ensures.items
