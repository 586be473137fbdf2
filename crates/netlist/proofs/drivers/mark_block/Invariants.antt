use Rattle.std.proofs.Common.{take}
use Rattle.design_ir.specs.Statements.{block_of}
use Rattle.design_ir.specs.Guards.{driven}
use Rattle.netlist.specs.Tables.{IsMarked}
use Rattle.netlist.proofs.drivers.mark_block.Given as goal

abbrev pub invariant-loop-s : goal.invariant-loop-s
invariant-loop-s l = IsMarked (driven l.design.pool (block_of (take l.s-index l.s-items))) l.k l.initial.places.items l.places.items
