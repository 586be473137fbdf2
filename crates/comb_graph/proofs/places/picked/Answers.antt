use Rattle.std.proofs.Common.{length}
use Rattle.comb_graph.proofs.GraphBelow.{below_at}
use Rattle.comb_graph.proofs.places.picked.Goals as goal

pub whole-requires-in-loop-item-clause-known : goal.whole-requires-in-loop-item-clause-known
whole-requires-in-loop-item-clause-known c = below_at (length c.args.firsts.now) c.args.items.now c.loop-item.item-index (record { 0 = 0 }) c.requires.items c.loop-item-test.true
