use Rattle.std.proofs.Common.{◌+◌, ◌*◌}
use Rattle.comb_graph.specs.Sets.{has}
use Rattle.comb_graph.proofs.SetLaws.{spread_begins, spread_more}
use Rattle.comb_graph.proofs.sets.spread.Goals as goal

pub loop-i-init : goal.loop-i-init
loop-i-init c = λ k. spread_begins c.args.offset.least (λ o. has c.args.set (o * c.args.stride + k)) k

pub loop-i-preserved : goal.loop-i-preserved
loop-i-preserved c =
    λ k. spread_more c.loop-i.all c.shifted-all.result c.args.offset.least c.loop-i.i (λ o. has c.args.set (o * c.args.stride + k)) k (c.loop-i.invariant k) (c.shifted-all.ensures k)
