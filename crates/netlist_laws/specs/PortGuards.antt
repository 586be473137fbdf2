-- The guards of a memory's ports: an address past the depth is given to no cell.
-- Source: this project's own rule (docs/RULES.md).
use Rattle.std.specs.Prelude.{◌≡◌, ◌≤◌, ◌<◌, ◌+◌, ◌^◌, ◌==◌, ℕ, nat_lt, Bool, if◌then◌else◌, max, List, [], ◌∷◌, pos, Some}
use Rattle.shape_rules.specs.Forms.{unsigned}
use Rattle.shape_rules.specs.declared.cell.CellKind.TheVariants as kind
use Rattle.rtlil_text.specs.declared.sig.SigPart.{SigPart}
use Rattle.rtlil_text.specs.Sources.{spec_bits}
use Rattle.rtlil_text.specs.Cells.{read, bit_at, number_bits}
use Rattle.rtlil_text.specs.Meaning.{source_value}
use Rattle.rtlil_text.specs.History.{Wires}
use Rattle.netlist_laws.specs.Cells.{binary_cell, mux_cell}
use Rattle.netlist_laws.specs.Operands.{wire_part, const_spec, at_width, const_operand}
use Rattle.netlist_laws.specs.Operators.{Value, Drawing, nothing, inner_wire, one_bit, as_form}
use Rattle.netlist_laws.specs.Carried.{Carries, Obeys}

-- an address of this width names each row and nothing else
abbrev pub is_exact : (depth width : ℕ) → Bool
is_exact depth width = depth == 2 ^ width

-- an address has no sign
abbrev pub address_value : List ℕ → ℕ → Value
address_value id width = record { id = id; form = unsigned width }

-- whether the address is one of a row, as one bit
abbrev pub row_spec : (ℕ → List ℕ) → (n depth : ℕ) → Value → List SigPart
row_spec id n depth a = if is_exact depth a.form.width then const_spec 1 (pos 1) else one_bit (id (n + 1))

-- what a cell gets for it, of at least one bit: itself, or 0 where it is past the depth
abbrev pub address_spec : (ℕ → List ℕ) → (n depth : ℕ) → Value → List SigPart
address_spec id n depth a = if is_exact depth a.form.width then at_width a.id a.form (max 1 a.form.width) else wire_part (id (n + 3)) 0 a.form.width

-- the cells of the guard, whose ids are numbered from n on
abbrev pub guard_drawing : (ℕ → List ℕ) → (n depth : ℕ) → Value → Drawing
guard_drawing id n depth a =
    if is_exact depth a.form.width then nothing
    else record {
      wires = inner_wire (id (n + 1)) 1 ∷ inner_wire (id (n + 3)) a.form.width ∷ [];
      cells =
          binary_cell kind.Lt (id n) (as_form a a.form) (const_operand a.form (pos depth)) 1 (one_bit (id (n + 1)))
          ∷ mux_cell (id (n + 2)) a.form.width (const_spec a.form.width (pos 0)) (at_width a.id a.form a.form.width) (one_bit (id (n + 1))) (wire_part (id (n + 3)) 0 a.form.width) ∷ [];
      links = [];
    }

-- where the address's wire carries a number, the one bit says whether it is one of a row, and a cell reads the number or 0
abbrev pub GuardsAreMade : Type 0
GuardsAreMade =
    (wires : Wires) (id : ℕ → List ℕ) (n depth : ℕ) (name : List ℕ) (width u : ℕ) → u < 2 ^ width → 1 ≤ depth → depth ≤ 2 ^ width
    → Carries wires (address_value name width) (pos u) → Obeys wires (guard_drawing id n depth (address_value name width))
    → (bit_at (source_value wires) (spec_bits (row_spec id n depth (address_value name width))) 0 ≡ Some (nat_lt u depth))
    × (read (source_value wires) (spec_bits (address_spec id n depth (address_value name width))) ≡ Some (number_bits (max 1 width) (if nat_lt u depth then u else 0)))
