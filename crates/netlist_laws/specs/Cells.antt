-- Cells as they are written: their parameters and ends in the order of the cell library.
use Rattle.std.specs.Prelude.{ℕ, Bool, cond, List, [], ◌∷◌, codes}
use Rattle.shape_rules.specs.Forms.{Form}
use Rattle.shape_rules.specs.declared.cell.CellKind.{CellKind}
use Rattle.shape_rules.specs.declared.cell.CellKind.TheVariants as kind
use Rattle.rtlil_text.specs.declared.sig.SigPart.{SigPart}
use Rattle.rtlil_text.specs.declared.cell.RtlValue.TheVariants.{Number, Bits}
use Rattle.rtlil_text.specs.declared.cell.RtlParameter.{RtlParameter}
use Rattle.rtlil_text.specs.declared.cell.RtlEnd.{RtlEnd}
use Rattle.rtlil_text.specs.declared.cell.RtlCell.{RtlCell}

abbrev pub number_parameter : List ℕ → ℕ → RtlParameter
number_parameter name n = record { name = name; value = Number n }

abbrev pub bits_parameter : List ℕ → List Bool → RtlParameter
bits_parameter name bits = record { name = name; value = Bits bits }

abbrev pub end_at : List ℕ → List SigPart → RtlEnd
end_at name spec = record { name = name; spec = spec }

-- an operand of a cell: its bits, how many there are, and whether the highest counts as minus
pub record Operand : Type 0 where
  pub spec : List SigPart
  pub form : Form

abbrev pub flag : Bool → ℕ
flag b = cond b 1 0

abbrev pub unary_parameters : Form → ℕ → List RtlParameter
unary_parameters a width =
    number_parameter (codes "\\A_SIGNED") (flag a.signed) ∷ number_parameter (codes "\\A_WIDTH") a.width ∷ number_parameter (codes "\\Y_WIDTH") width ∷ []

-- a cell of one operand, with an output of this width
abbrev pub unary_cell : CellKind → List ℕ → Operand → ℕ → List SigPart → RtlCell
unary_cell k id a width y = record {
  kind = k;
  id = id;
  parameters = unary_parameters a.form width;
  ends = end_at (codes "\\A") a.spec ∷ end_at (codes "\\Y") y ∷ [];
}

abbrev pub binary_parameters : Form → Form → ℕ → List RtlParameter
binary_parameters a b width =
    number_parameter (codes "\\A_SIGNED") (flag a.signed) ∷ number_parameter (codes "\\A_WIDTH") a.width
    ∷ number_parameter (codes "\\B_SIGNED") (flag b.signed) ∷ number_parameter (codes "\\B_WIDTH") b.width
    ∷ number_parameter (codes "\\Y_WIDTH") width ∷ []

-- a cell of two operands, with an output of this width
abbrev pub binary_cell : CellKind → List ℕ → Operand → Operand → ℕ → List SigPart → RtlCell
binary_cell k id a b width y = record {
  kind = k;
  id = id;
  parameters = binary_parameters a.form b.form width;
  ends = end_at (codes "\\A") a.spec ∷ end_at (codes "\\B") b.spec ∷ end_at (codes "\\Y") y ∷ [];
}

-- `b` where the one bit of `s` is 1, else `a`
abbrev pub mux_cell : List ℕ → ℕ → (a b s y : List SigPart) → RtlCell
mux_cell id width a b s y = record {
  kind = kind.Mux;
  id = id;
  parameters = number_parameter (codes "\\WIDTH") width ∷ [];
  ends = end_at (codes "\\A") a ∷ end_at (codes "\\B") b ∷ end_at (codes "\\S") s ∷ end_at (codes "\\Y") y ∷ [];
}
