use Rattle.std.proofs.Common.{◌≤◌, ◌+◌, take, All}
use Rattle.rtlil_text.specs.declared.module.RtlMemory.{RtlMemory}
use Rattle.cell_split.specs.Blocks.{count_taken, Marks, MarksId}
use Rattle.cell_split.proofs.blocks.mark_memories.Given as goal

abbrev pub invariant-loop-memory : goal.invariant-loop-memory
invariant-loop-memory l = record {
  kept : Marks l.fn.taken l.taken;
  few : count_taken l.taken ≤ count_taken l.fn.taken + l.memory-index;
  marked : All (λ (x : RtlMemory). MarksId l.taken x.id) (take l.memory-index l.memory-items);
}
