-- A module of which some cells are cut into cells of one bit.
-- Internal: no rule of the language.
use Rattle.std.specs.Prelude.{ℕ, ◌+◌, nat_lt, ◌&&◌, Bool, if◌then◌else◌, List, [], ◌∷◌, ◌++◌, length, codes}
use Rattle.rtlil_text.specs.declared.cell.RtlCell.{RtlCell}
use Rattle.rtlil_text.specs.declared.module.RtlModule.{RtlModule}
use Rattle.rtlil_text.specs.Sources.{end_width}
use Rattle.cell_split.specs.Pieces.{is_bitwise, pieces}

-- the cell goes bit by bit, and has more than one
abbrev pub can_split : RtlCell → Bool
can_split c = is_bitwise c.kind && nat_lt 1 (end_width c (codes "\\Y"))

-- what stands for a cell: its bits one by one where it is marked and can be cut, else itself
abbrev pub split_cell : (n : ℕ) → Bool → RtlCell → List RtlCell
split_cell n marked c = if marked && can_split c then pieces n c else c ∷ []

-- the cells in their order, with a mark for each; the cell that comes to place k has the number n + k where it is new
abbrev pub split_cells : (n : ℕ) → List Bool → List RtlCell → List RtlCell
split_cells n [] cells = cells
split_cells n (b ∷ marks) [] = []
split_cells n (b ∷ marks) (c ∷ cells) = split_cell n b c ++ split_cells (n + length (split_cell n b c)) marks cells

-- all else stays
abbrev pub split_of : (n : ℕ) → List Bool → RtlModule → RtlModule
split_of n marks m = record { wires = m.wires; memories = m.memories; cells = split_cells n marks m.cells; links = m.links }
