use Rattle.std.proofs.Common.{arith}
use Rattle.rtlil_text.specs.declared.module.RtlMemory.{RtlMemory}
use Rattle.cell_split.specs.Blocks.{MarksId}
use Rattle.cell_split.proofs.Lists.{All-taken}
use Rattle.cell_split.proofs.BlockLaws.{marks_then, ids_next}
use Rattle.cell_split.proofs.blocks.mark_memories.Goals as goal

pub loop-memory-preserved : goal.loop-memory-preserved
loop-memory-preserved c = record {
  kept = marks_then c.args.taken.now c.loop-memory.taken c.mark.new.taken c.loop-memory.invariant.kept c.mark.ensures.kept;
  few = omega (arith, c.loop-memory.invariant.few, c.mark.ensures.one);
  marked =
      ids_next (λ (x : RtlMemory). x.id) c.loop-memory.taken c.mark.new.taken c.as_slice-memory-items.result.now c.loop-memory.memory-index c.memory-item.result c.as_str.result.now
      (omega (arith, c.loop-memory-test.true)) c.memory-item.is c.as_str.ensures c.mark.ensures.kept c.mark.ensures.marked c.loop-memory.invariant.marked;
}

pub returns-clause-marked : goal.returns-clause-marked
returns-clause-marked c =
    All-taken (λ (x : RtlMemory). MarksId c.loop-memory.taken x.id) c.as_slice-memory-items.result.now c.args.memories.now c.loop-memory.memory-index c.as_slice-memory-items.ensures (omega (arith, c.loop-memory-test.false)) c.loop-memory.invariant.marked
