use Rattle.std.proofs.Common.{take}
use Rattle.std.specs.List.{AllByRecursion}
use Rattle.netlist_laws.specs.Made.{HasByteStride}
use Rattle.netlist.proofs.lowering.strides_are_bytes.Given as goal

abbrev pub invariant-loop-k : goal.invariant-loop-k
invariant-loop-k l = AllByRecursion HasByteStride (take l.k l.design.pool.exprs)
