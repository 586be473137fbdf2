-- The cells of a memory, and what its writes leave in a bit of a row.
-- Source: Yosys manual, Cell library: memories.
use Rattle.std.specs.Prelude.{ℕ, ◌&&◌, Bool, true, false, if◌then◌else◌, List, [], ◌∷◌}
use Rattle.std.specs.List.{filter}
use Rattle.lists.specs.Texts.{text_eq}
use Rattle.shape_rules.specs.declared.cell.CellKind.{CellKind}
use Rattle.shape_rules.specs.declared.cell.CellKind.TheVariants.{MemoryWrite, MemoryInit}
use Rattle.rtlil_text.specs.declared.cell.RtlCell.{RtlCell}
use Rattle.rtlil_text.specs.declared.module.RtlModule.{RtlModule}
use Rattle.rtlil_text.specs.Sources.{memory_id}

abbrev pub is_write : CellKind → Bool
is_write MemoryWrite = true
is_write kind = false

abbrev pub is_init : CellKind → Bool
is_init MemoryInit = true
is_init kind = false

-- the write cells of a memory, in the text's order
abbrev pub writes_of : RtlModule → List ℕ → List RtlCell
writes_of m id = filter (λ (c : RtlCell). is_write c.kind && text_eq (memory_id c) id) m.cells

-- the cells that give a memory its first rows
abbrev pub inits_of : RtlModule → List ℕ → List RtlCell
inits_of m id = filter (λ (c : RtlCell). is_init c.kind && text_eq (memory_id c) id) m.cells

-- the cells whose bit is set in a mask
abbrev pub masked : List Bool → List RtlCell → List RtlCell
masked [] cells = []
masked (b ∷ mask) [] = []
masked (b ∷ mask) (c ∷ cells) = if b then c ∷ masked mask cells else masked mask cells
