use Rattle.value_acts.proofs.ArrayLaws.{wide_at}
use Rattle.value_acts.proofs.arrays.common_from.Goals as goal

pub returns-in-None : goal.returns-in-None
returns-in-None c = wide_at c.loop-x.all c.args.xs.now c.loop-x.x-index _ c.shape.result _ c.loop-x-test.true c.loop-x.invariant c.x-item.is c.shape.ensures c.in-None.ensures
