-- The grammar: which texts stand for a module. A spec may be written in several ways.
-- Source: Yosys manual, RTLIL text representation: Signal specifications, Connections, Cells; a part of it: own rule (docs/RULES.md).
use Rattle.std.specs.Prelude.{◌≡◌, ℕ, ◌+◌, ◌-◌, ◌≤◌, Bool, List, [], ◌∷◌, ◌++◌, codes, Contains}
use Rattle.std.specs.List.{flat_map}
use Rattle.rtlil_text.specs.Numerals.{numeral}
use Rattle.rtlil_text.specs.declared.sig.SigPart.{SigPart}
use Rattle.rtlil_text.specs.declared.sig.SigPart.TheVariants as parts
use Rattle.rtlil_text.specs.declared.cell.RtlEnd.{RtlEnd}
use Rattle.rtlil_text.specs.declared.cell.RtlCell.{RtlCell}
use Rattle.rtlil_text.specs.declared.module.RtlWire.{RtlWire}
use Rattle.rtlil_text.specs.declared.module.RtlLink.{RtlLink}
use Rattle.rtlil_text.specs.declared.module.RtlModule.{RtlModule}
use Rattle.rtlil_text.specs.Lines.{◌▸◌, end_line, const_text, wire_text, memory_text, parameter_text, cell_line, cell_end, head_text, module_end}

-- one of the wires has this id and this width
pub record IsWhole (wires : List RtlWire) (id : List ℕ) (width : ℕ) : Type 0 where
  pub wire : RtlWire
  pub among : Contains wires wire
  pub named : wire.id ≡ id
  pub wide : wire.width ≡ width

mutual
  -- a constant, a whole wire, one bit of it, some bits in a row, or specs between braces
  pub data IsSpec (wires : List RtlWire) : List ℕ → List SigPart → Type 0 where
    const : (text : List ℕ) (ps : List SigPart) (bits : List Bool) → text ≡ const_text bits → ps ≡ parts.Const bits ∷ [] → IsSpec wires text ps
    whole : (text : List ℕ) (ps : List SigPart) (width : ℕ) → IsWhole wires text width → ps ≡ parts.Wire text 0 width ∷ [] → IsSpec wires text ps
    one : (text : List ℕ) (ps : List SigPart) (id : List ℕ) (low : ℕ) → text ≡ id ▸ codes " [" ▸ numeral low ▸ codes "]" → ps ≡ parts.Wire id low 1 ∷ [] → IsSpec wires text ps
    range : (text : List ℕ) (ps : List SigPart) (id : List ℕ) (high low : ℕ) → low ≤ high → text ≡ id ▸ codes " [" ▸ numeral high ▸ codes ":" ▸ numeral low ▸ codes "]" → ps ≡ parts.Wire id low (high - low + 1) ∷ [] → IsSpec wires text ps
    braces : (text inner : List ℕ) (ps : List SigPart) → AreSpecs wires inner ps → text ≡ codes "{" ▸ inner ▸ codes " }" → IsSpec wires text ps

  -- specs one after another, each with a blank before it
  pub data AreSpecs (wires : List RtlWire) : List ℕ → List SigPart → Type 0 where
    none : (text : List ℕ) (ps : List SigPart) → text ≡ [] → ps ≡ [] → AreSpecs wires text ps
    more : (text first rest : List ℕ) (ps qs rs : List SigPart) → IsSpec wires first qs → AreSpecs wires rest rs → text ≡ codes " " ▸ first ▸ rest → ps ≡ qs ++ rs → AreSpecs wires text ps

-- a text for each element, one after another
abbrev pub Each : {A : Type 0} → (List ℕ → A → Type 0) → List ℕ → List A → Type 0
Each Is text [] = text ≡ []
Each Is text (x ∷ xs) = (first rest : List ℕ) × Is first x × Each Is rest xs × (text ≡ first ▸ rest)

pub record IsEnd (wires : List RtlWire) (text : List ℕ) (e : RtlEnd) : Type 0 where
  pub spec : List ℕ
  pub spells : IsSpec wires spec e.spec
  pub whole : text ≡ codes "    connect " ▸ e.name ▸ codes " " ▸ spec ▸ end_line

pub record IsLink (wires : List RtlWire) (text : List ℕ) (l : RtlLink) : Type 0 where
  pub left : List ℕ
  pub right : List ℕ
  pub spells_left : IsSpec wires left l.left
  pub spells_right : IsSpec wires right l.right
  pub whole : text ≡ codes "  connect " ▸ left ▸ codes " " ▸ right ▸ end_line

pub record IsCell (wires : List RtlWire) (text : List ℕ) (c : RtlCell) : Type 0 where
  pub ends : List ℕ
  pub spells : Each (IsEnd wires) ends c.ends
  pub whole : text ≡ cell_line c.kind c.id ▸ flat_map parameter_text c.parameters ▸ ends ▸ cell_end

-- the text of a module
pub record IsText (text : List ℕ) (m : RtlModule) : Type 0 where
  pub cells : List ℕ
  pub links : List ℕ
  pub spells_cells : Each (IsCell m.wires) cells m.cells
  pub spells_links : Each (IsLink m.wires) links m.links
  pub whole : text ≡ head_text ▸ flat_map memory_text m.memories ▸ flat_map wire_text m.wires ▸ cells ▸ links ▸ module_end
