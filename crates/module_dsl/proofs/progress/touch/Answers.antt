use Rattle.std.proofs.Common.{◌≡◌, slice_index_or, sym, ap, ◌∙◌, arith}
use Rattle.module_dsl.specs.declared.progress.SideSoFar.{SideSoFar}
use Rattle.module_dsl.specs.Progress.{touched}
use Rattle.module_dsl.proofs.Writes.{write-next}
use Rattle.module_dsl.proofs.progress.touch.Goals as goal
use Rattle.module_dsl.proofs.progress.touch.Goals.{then-is_same, else-is_same}

pub loop-x-preserved : goal.loop-x-preserved
loop-x-preserved c =
    let x = c.x-item.result in
    let at : SideSoFar = slice_index_or c.loop-x.sides c.loop-x.x-index x in
    let written : record { side = at.side; reach = c.if-is_same.x } ≡ touched c.args.side.now c.args.level at =
    elim c.if-is_same.branch [
      | then-is_same w ↦ rw (sym c.is_same.ensures ∙ w.if-is_same.true) (ap (λ n. record { side = at.side; reach = n }) w.x-is)
      | else-is_same w ↦ rw (sym c.is_same.ensures ∙ w.if-is_same.false) (ap (λ n. record { side = at.side; reach = n }) (w.x-is ∙ w.min-x.ensures))
    ] in
    write-next (touched c.args.side.now c.args.level) c.loop-x.sides _ c.loop-x.x-index x _ (omega (arith, c.loop-x-test.true, c.loop-x.auto.sides)) written c.loop-x.invariant
