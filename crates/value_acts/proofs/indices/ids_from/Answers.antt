use Rattle.std.proofs.Common.{sym}
use Rattle.value_acts.proofs.IndexLaws.{ids_more}
use Rattle.value_acts.proofs.indices.ids_from.Goals as goal

pub loop-k-preserved : goal.loop-k-preserved
loop-k-preserved c = rw (c.in-Ok.ensures.ok, c.loop-k.invariant) (sym (ids_more c.args.next c.loop-k.k))
