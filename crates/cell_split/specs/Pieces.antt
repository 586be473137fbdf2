-- A cell that goes bit by bit as cells of one bit.
-- Internal: no rule of the language.
use Rattle.std.specs.Prelude.{ℕ, ◌+◌, ◌||◌, Bool, true, false, if◌then◌else◌, List, [], ◌∷◌, map, slice_get, Option, Some, None, codes}
use Rattle.std.specs.List.{range_with_len}
use Rattle.std.specs.Fmt.{decimal}
use Rattle.lists.specs.Texts.{text_eq}
use Rattle.shape_rules.specs.declared.cell.CellKind.{CellKind}
use Rattle.shape_rules.specs.declared.cell.CellKind.TheVariants.{Not, And, Or, Xor, Mux}
use Rattle.rtlil_text.specs.declared.sig.SigPart.{SigPart}
use Rattle.rtlil_text.specs.declared.sig.SigPart.TheVariants as parts
use Rattle.rtlil_text.specs.declared.cell.RtlValue.{RtlValue}
use Rattle.rtlil_text.specs.declared.cell.RtlValue.TheVariants as values
use Rattle.rtlil_text.specs.declared.cell.RtlParameter.{RtlParameter}
use Rattle.rtlil_text.specs.declared.cell.RtlEnd.{RtlEnd}
use Rattle.rtlil_text.specs.declared.cell.RtlCell.{RtlCell}
use Rattle.rtlil_text.specs.Sources.{Source, Constant, Net, spec_bits, end_width}

-- bit k of the output of such a cell needs bit k of the operands, and of `$mux` also S
abbrev pub is_bitwise : CellKind → Bool
is_bitwise Not = true
is_bitwise And = true
is_bitwise Or = true
is_bitwise Xor = true
is_bitwise Mux = true
is_bitwise kind = false

-- ---- ends

-- one bit as a part
abbrev pub bit_part : Source → SigPart
bit_part (Constant b) = parts.Const (b ∷ [])
bit_part (Net id i) = parts.Wire id i 1

abbrev pub bit_parts : Option Source → List SigPart
bit_parts None = []
bit_parts (Some s) = bit_part s ∷ []

-- bit k of a spec; there is none past its width
abbrev pub bit_spec : List SigPart → ℕ → List SigPart
bit_spec spec k = bit_parts (slice_get (spec_bits spec) k)

-- the one bit at S is needed by each bit
abbrev pub is_shared : List ℕ → Bool
is_shared name = text_eq name (codes "\\S")

abbrev pub piece_spec : List ℕ → List SigPart → ℕ → List SigPart
piece_spec name spec k = if is_shared name then spec else bit_spec spec k

abbrev pub piece_end : ℕ → RtlEnd → RtlEnd
piece_end k e = record { name = e.name; spec = piece_spec e.name e.spec k }

-- ---- parameters

-- whether the operand counts as signed
abbrev pub is_sign : List ℕ → Bool
is_sign name = text_eq name (codes "\\A_SIGNED") || text_eq name (codes "\\B_SIGNED")

-- the signs stay, and each width is 1
abbrev pub piece_value : List ℕ → RtlValue → RtlValue
piece_value name v = if is_sign name then v else values.Number 1

abbrev pub piece_parameter : RtlParameter → RtlParameter
piece_parameter p = record { name = p.name; value = piece_value p.name p.value }

-- ---- cells

-- `$` and a number
abbrev pub numbered_id : ℕ → List ℕ
numbered_id n = 36 ∷ decimal n

-- the cell of bit k, under the id with number n
abbrev pub piece : (n : ℕ) → RtlCell → (k : ℕ) → RtlCell
piece n c k = record { kind = c.kind; id = numbered_id n; parameters = map piece_parameter c.parameters; ends = map (piece_end k) c.ends }

-- a cell for each bit, the lowest first, numbered from n on
abbrev pub pieces : (n : ℕ) → RtlCell → List RtlCell
pieces n c = map (λ k. piece (n + k) c k) (range_with_len 0 (end_width c (codes "\\Y")))
