use Rattle.std.proofs.Common.{arith, length}
use Rattle.comb_graph.proofs.GraphBelow.{below_at}
use Rattle.comb_graph.proofs.places.joined.Goals as goal

pub shape-requires : goal.shape-requires
shape-requires c = omega (arith, below_at (length c.args.firsts.now) c.args.items.now c.loop-item.item-index (record { 0 = 0 }) c.requires.items c.loop-item-test.true, c.requires.table.few)

pub first-requires-clause-known : goal.first-requires-clause-known
first-requires-clause-known c = below_at (length c.args.firsts.now) c.args.items.now c.loop-item.item-index (record { 0 = 0 }) c.requires.items c.loop-item-test.true
