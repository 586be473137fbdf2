use Rattle.std.proofs.Common.{slice_index_or, ap, arith}
use Rattle.module_dsl.specs.Progress.{clipped}
use Rattle.module_dsl.proofs.Writes.{write-next}
use Rattle.module_dsl.proofs.progress.clip.Goals as goal

pub loop-x-preserved : goal.loop-x-preserved
loop-x-preserved c =
    let x = c.x-item.result in
    write-next (clipped c.args.level) c.loop-x.sides _ c.loop-x.x-index x _ (omega (arith, c.loop-x-test.true, c.loop-x.auto.sides)) (ap (λ n. record { side = (slice_index_or c.loop-x.sides c.loop-x.x-index x).side; reach = n }) c.min-x.ensures) c.loop-x.invariant
