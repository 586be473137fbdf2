use Rattle.std.proofs.Common.{◌≤◌, ◌+◌, take, All}
use Rattle.rtlil_text.specs.declared.cell.RtlCell.{RtlCell}
use Rattle.cell_split.specs.Blocks.{count_taken, Marks, MarksId}
use Rattle.cell_split.proofs.blocks.mark_cells.Given as goal

abbrev pub invariant-loop-cell : goal.invariant-loop-cell
invariant-loop-cell l = record {
  kept : Marks l.fn.taken l.taken;
  few : count_taken l.taken ≤ count_taken l.fn.taken + l.cell-index;
  marked : All (λ (x : RtlCell). MarksId l.taken x.id) (take l.cell-index l.cell-items);
}
