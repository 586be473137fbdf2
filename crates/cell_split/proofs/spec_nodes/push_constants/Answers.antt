use Rattle.std.proofs.Common.{arith}
use Rattle.cell_split.proofs.SpecNodes.{constants_more}
use Rattle.cell_split.proofs.spec_nodes.push_constants.Goals as goal

pub loop-bit-preserved : goal.loop-bit-preserved
loop-bit-preserved c =
    constants_more c.args.spare c.args.nodes.now.items c.loop-bit.nodes.items c.push.new.self.items c.args.bits.now c.loop-bit._bit-index (omega (arith, c.loop-bit-test.true)) c.loop-bit.invariant c.in_ok-push.ensures.items
