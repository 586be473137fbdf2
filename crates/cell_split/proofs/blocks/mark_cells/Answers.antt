use Rattle.std.proofs.Common.{arith}
use Rattle.rtlil_text.specs.declared.cell.RtlCell.{RtlCell}
use Rattle.cell_split.specs.Blocks.{MarksId}
use Rattle.cell_split.proofs.Lists.{All-taken}
use Rattle.cell_split.proofs.BlockLaws.{marks_then, ids_next}
use Rattle.cell_split.proofs.blocks.mark_cells.Goals as goal

pub loop-cell-preserved : goal.loop-cell-preserved
loop-cell-preserved c = record {
  kept = marks_then c.args.taken.now c.loop-cell.taken c.mark.new.taken c.loop-cell.invariant.kept c.mark.ensures.kept;
  few = omega (arith, c.loop-cell.invariant.few, c.mark.ensures.one);
  marked =
      ids_next (λ (x : RtlCell). x.id) c.loop-cell.taken c.mark.new.taken c.as_slice-cell-items.result.now c.loop-cell.cell-index c.cell-item.result c.as_str.result.now
      (omega (arith, c.loop-cell-test.true)) c.cell-item.is c.as_str.ensures c.mark.ensures.kept c.mark.ensures.marked c.loop-cell.invariant.marked;
}

pub returns-clause-marked : goal.returns-clause-marked
returns-clause-marked c =
    All-taken (λ (x : RtlCell). MarksId c.loop-cell.taken x.id) c.as_slice-cell-items.result.now c.args.cells.now c.loop-cell.cell-index c.as_slice-cell-items.ensures (omega (arith, c.loop-cell-test.false)) c.loop-cell.invariant.marked
