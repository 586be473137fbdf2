use Rattle.std.proofs.Common.{◌≡◌, take}
use Rattle.cell_split.specs.Split.{split_cells}
use Rattle.cell_split.proofs.split.split_cells.Given as goal

abbrev pub invariant-loop-k : goal.invariant-loop-k
invariant-loop-k l = l.cells ≡ split_cells l.first (take l.k l.marks) (take l.k l.rtl.cells)
