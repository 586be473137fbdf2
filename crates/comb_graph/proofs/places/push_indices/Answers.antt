use Rattle.std.proofs.Common.{length}
use Rattle.comb_graph.proofs.GraphBelow.{below_at}
use Rattle.comb_graph.proofs.places.push_indices.Goals as goal

pub indices-requires-clause-known : goal.indices-requires-clause-known
indices-requires-clause-known c = below_at (length c.args.firsts.now) c.args.items.now c.loop-item.item-index (record { 0 = 0 }) c.requires.items c.loop-item-test.true
