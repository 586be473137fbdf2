use Rattle.std.proofs.Common.{take, All}
use Rattle.rtlil_text.specs.CellTables.{output_of}
use Rattle.cell_split.specs.Needs.{node_of, Grows, HasEnd}
use Rattle.cell_split.proofs.needs.add_ends.Given as goal

abbrev pub invariant-loop-end : goal.invariant-loop-end
invariant-loop-end l = record {
  grows : Grows l.fn.graph l.graph;
  ends : All (HasEnd l.graph (node_of l.nodes) l.place (output_of l.cell.kind)) (take l.end-index l.end-items);
}
