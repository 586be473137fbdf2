-- What the code must know of numbers in a module, and finds in its rules.
-- Internal: no rule of the language.
use Rattle.std.specs.Prelude.{◌≡◌, ◌≤◌, ◌<◌, ◌+◌, ◌^◌, ℕ, List, All, IsTrue, codes}
use Rattle.shape_rules.specs.declared.cell.CellKind.{CellKind}
use Rattle.shape_rules.specs.declared.cell.CellKind.TheVariants.{Mux}
use Rattle.rtlil_text.specs.declared.sig.SigPart.{SigPart}
use Rattle.rtlil_text.specs.declared.sig.SigPart.TheVariants as parts
use Rattle.rtlil_text.specs.declared.cell.RtlEnd.{RtlEnd}
use Rattle.rtlil_text.specs.declared.cell.RtlCell.{RtlCell}
use Rattle.rtlil_text.specs.declared.module.RtlWire.{RtlWire}
use Rattle.rtlil_text.specs.Sources.{end_width, number_at}
use Rattle.cell_split.specs.Pieces.{is_bitwise}

-- the places of all bits of a part are numbers of 32 bits
abbrev pub PartIsShort : SigPart → Type 0
PartIsShort (parts.Const bits) = Unit {0}
PartIsShort (parts.Wire id low width) = low + width ≤ 2 ^ 32

abbrev pub SpecIsShort : List SigPart → Type 0
SpecIsShort spec = All PartIsShort spec

abbrev pub EndsAreShort : List RtlEnd → Type 0
EndsAreShort ends = All (λ (e : RtlEnd). SpecIsShort e.spec) ends

-- the parameter that has the width of the output
abbrev pub width_name : CellKind → List ℕ
width_name Mux = codes "\\WIDTH"
width_name kind = codes "\\Y_WIDTH"

-- a cell that the code can cut: its parts are short, and a parameter has the width of its output
pub record IsPlainCell (c : RtlCell) : Type 0 where
  pub ends : EndsAreShort c.ends
  pub width : IsTrue (is_bitwise c.kind) → number_at c (width_name c.kind) ≡ end_width c (codes "\\Y")

abbrev pub AreNarrow : List RtlWire → Type 0
AreNarrow wires = All (λ (w : RtlWire). w.width < 2 ^ 32) wires
