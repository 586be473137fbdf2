-- The one text that is written of each module, of all texts that stand for it.
-- Internal: no rule of the language.
use Rattle.std.specs.Prelude.{◌≡◌, ℕ, ◌+◌, ◌-◌, ◌==◌, ◌&&◌, Bool, false, cond, if◌then◌else◌, List, [], ◌∷◌, fold, Option, Some, None, codes}
use Rattle.std.specs.List.{flat_map}
use Rattle.std.specs.Str.{bytes_eq}
use Rattle.rtlil_text.specs.Numerals.{numeral}
use Rattle.rtlil_text.specs.declared.sig.SigPart.{SigPart}
use Rattle.rtlil_text.specs.declared.sig.SigPart.TheVariants as parts
use Rattle.rtlil_text.specs.declared.cell.RtlEnd.{RtlEnd}
use Rattle.rtlil_text.specs.declared.cell.RtlCell.{RtlCell}
use Rattle.rtlil_text.specs.declared.module.RtlWire.{RtlWire}
use Rattle.rtlil_text.specs.declared.module.RtlLink.{RtlLink}
use Rattle.rtlil_text.specs.declared.module.RtlModule.{RtlModule}
use Rattle.rtlil_text.specs.Lines.{◌▸◌, end_line, const_text, wire_text, memory_text, parameter_text, cell_line, cell_end, head_text, module_end}
use Rattle.rtlil_text.specs.Grammar.{IsWhole}

-- the width of the last wire with this id, which is the only one where the module keeps the rules
abbrev pub width_among : List RtlWire → List ℕ → Option ℕ
width_among wires id = fold (λ found (w : RtlWire). cond (bytes_eq w.id id) (Some w.width) found) None wires

-- the width that stands under an id is that of a wire with this id
abbrev pub AreWidths : List RtlWire → (List ℕ → Option ℕ) → Type 0
AreWidths wires widths = (id : List ℕ) (width : ℕ) → widths id ≡ Some width → IsWhole wires id width

abbrev pub is_whole : Option ℕ → (low width : ℕ) → Bool
is_whole (Some all) low width = (low == 0) && (width == all)
is_whole None low width = false

-- a whole wire as its id alone, and one bit by its place
abbrev pub part_text : (List ℕ → Option ℕ) → SigPart → List ℕ
part_text widths (parts.Const bits) = const_text bits
part_text widths (parts.Wire id low width) =
    if is_whole (widths id) low width then id
    else if width == 1 then id ▸ codes " [" ▸ numeral low ▸ codes "]"
    else id ▸ codes " [" ▸ numeral (low + width - 1) ▸ codes ":" ▸ numeral low ▸ codes "]"

abbrev pub braced_text : (List ℕ → Option ℕ) → List SigPart → List ℕ
braced_text widths ps = codes "{" ▸ flat_map (λ p. codes " " ▸ part_text widths p) ps ▸ codes " }"

-- braces stand round any but one part
abbrev pub spec_text : (List ℕ → Option ℕ) → List SigPart → List ℕ
spec_text widths [] = braced_text widths []
spec_text widths (p ∷ []) = part_text widths p
spec_text widths (p ∷ q ∷ ps) = braced_text widths (p ∷ q ∷ ps)

abbrev pub end_text : (List ℕ → Option ℕ) → RtlEnd → List ℕ
end_text widths e = codes "    connect " ▸ e.name ▸ codes " " ▸ spec_text widths e.spec ▸ end_line

abbrev pub link_text : (List ℕ → Option ℕ) → RtlLink → List ℕ
link_text widths l = codes "  connect " ▸ spec_text widths l.left ▸ codes " " ▸ spec_text widths l.right ▸ end_line

abbrev pub cell_text : (List ℕ → Option ℕ) → RtlCell → List ℕ
cell_text widths c = cell_line c.kind c.id ▸ flat_map parameter_text c.parameters ▸ flat_map (end_text widths) c.ends ▸ cell_end

-- the lines before the cells, and those after them
abbrev pub opening_text : RtlModule → List ℕ
opening_text m = head_text ▸ flat_map memory_text m.memories ▸ flat_map wire_text m.wires

abbrev pub closing_text : (List ℕ → Option ℕ) → RtlModule → List ℕ
closing_text widths m = flat_map (link_text widths) m.links ▸ module_end

abbrev pub module_text : (List ℕ → Option ℕ) → RtlModule → List ℕ
module_text widths m = opening_text m ▸ flat_map (cell_text widths) m.cells ▸ closing_text widths m

-- the text that is written
abbrev pub text_of : RtlModule → List ℕ
text_of m = module_text (width_among m.wires) m
