use Rattle.std.proofs.Common.{◌≤◌, ◌+◌, take, All}
use Rattle.rtlil_text.specs.declared.module.RtlWire.{RtlWire}
use Rattle.cell_split.specs.Blocks.{count_taken, Marks, MarksId}
use Rattle.cell_split.proofs.blocks.mark_wires.Given as goal

abbrev pub invariant-loop-wire : goal.invariant-loop-wire
invariant-loop-wire l = record {
  kept : Marks l.fn.taken l.taken;
  few : count_taken l.taken ≤ count_taken l.fn.taken + l.wire-index;
  marked : All (λ (x : RtlWire). MarksId l.taken x.id) (take l.wire-index l.wire-items);
}
