use Rattle.std.proofs.Common.{◌≡◌, ◌<◌, ℕ}
use Rattle.std.specs.Prelude.{Some, slice_get}
use Rattle.rtlil_text.specs.declared.cell.RtlCell.{RtlCell}
use Rattle.cell_split.specs.Needs.{node_of, Grows, HasCell}
use Rattle.cell_split.proofs.needs.add_cells.Given as goal

abbrev pub invariant-loop-place : goal.invariant-loop-place
invariant-loop-place l = record {
  grows : Grows l.fn.graph l.graph;
  added : (p : ℕ) (x : RtlCell) → p < l.place → slice_get l.cells p ≡ Some x → HasCell l.graph (node_of l.nodes) p x;
}
