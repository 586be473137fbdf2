use Rattle.std.proofs.Common.{arith}
use Rattle.rtlil_text.specs.declared.module.RtlWire.{RtlWire}
use Rattle.cell_split.specs.Blocks.{MarksId}
use Rattle.cell_split.proofs.Lists.{All-taken}
use Rattle.cell_split.proofs.BlockLaws.{marks_then, ids_next}
use Rattle.cell_split.proofs.blocks.mark_wires.Goals as goal

pub loop-wire-preserved : goal.loop-wire-preserved
loop-wire-preserved c = record {
  kept = marks_then c.args.taken.now c.loop-wire.taken c.mark.new.taken c.loop-wire.invariant.kept c.mark.ensures.kept;
  few = omega (arith, c.loop-wire.invariant.few, c.mark.ensures.one);
  marked =
      ids_next (λ (x : RtlWire). x.id) c.loop-wire.taken c.mark.new.taken c.as_slice-wire-items.result.now c.loop-wire.wire-index c.wire-item.result c.as_str.result.now
      (omega (arith, c.loop-wire-test.true)) c.wire-item.is c.as_str.ensures c.mark.ensures.kept c.mark.ensures.marked c.loop-wire.invariant.marked;
}

pub returns-clause-marked : goal.returns-clause-marked
returns-clause-marked c =
    All-taken (λ (x : RtlWire). MarksId c.loop-wire.taken x.id) c.as_slice-wire-items.result.now c.args.wires.now c.loop-wire.wire-index c.as_slice-wire-items.ensures (omega (arith, c.loop-wire-test.false)) c.loop-wire.invariant.marked
