use Rattle.cell_split.specs.Needs.{node_behind}
use Rattle.cell_split.proofs.SpecNodes.{bits_more}
use Rattle.cell_split.proofs.spec_nodes.push_bits.Goals as goal

pub loop-k-preserved : goal.loop-k-preserved
loop-k-preserved c =
    bits_more (node_behind c.args.all.now c.args.first) c.args.nodes.now.items c.loop-k.nodes.items c.push.new.self.items c.args.low c.loop-k.k c.behind.result c.loop-k.invariant c.behind.ensures c.in_ok-push.ensures.items
