use Rattle.netlist_laws.proofs.ByteStrides.{byte_strides-more}
use Rattle.netlist.proofs.lowering.strides_are_bytes.Goals as goal

pub loop-k-preserved : goal.loop-k-preserved
loop-k-preserved c = byte_strides-more c.args.design.now.pool.exprs c.loop-k.k c.at.result.now c.at.ensures c.stride_is_a_byte.ensures c.loop-k.invariant
