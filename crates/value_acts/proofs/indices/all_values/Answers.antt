use Rattle.std.proofs.Common.{sym}
use Rattle.value_acts.proofs.IndexLaws.{values_more}
use Rattle.value_acts.proofs.indices.all_values.Goals as goal

pub loop-k-preserved : goal.loop-k-preserved
loop-k-preserved c =
    let more = values_more c.args.next c.loop-k.k in
    rw (c.in-Ok.ensures, c.loop-k.invariant) (sym more)
