-- Parts of small modules, for the sanity theorems.
use Rattle.std.specs.Prelude.{ℕ, Bool, List, [], ◌∷◌, codes, None}
use Rattle.shape_rules.specs.declared.cell.CellKind.{CellKind}
use Rattle.shape_rules.specs.declared.cell.CellKind.TheVariants.{Mux, Dff}
use Rattle.rtlil_text.specs.declared.sig.SigPart.{SigPart}
use Rattle.rtlil_text.specs.declared.sig.SigPart.TheVariants as parts
use Rattle.rtlil_text.specs.declared.cell.RtlValue.TheVariants as values
use Rattle.rtlil_text.specs.declared.cell.RtlParameter.{RtlParameter}
use Rattle.rtlil_text.specs.declared.cell.RtlEnd.{RtlEnd}
use Rattle.rtlil_text.specs.declared.cell.RtlCell.{RtlCell}
use Rattle.rtlil_text.specs.declared.module.WirePort.{WirePort}
use Rattle.rtlil_text.specs.declared.module.RtlWire.{RtlWire}

abbrev pub wire : List ℕ → ℕ → WirePort → RtlWire
wire id width port = record { id = id; width = width; port = port; init = None }

abbrev pub whole : List ℕ → ℕ → List SigPart
whole id width = parts.Wire id 0 width ∷ []

-- a constant, given from the lowest bit on
abbrev pub bits : List Bool → List SigPart
bits bs = parts.Const bs ∷ []

abbrev pub number : List ℕ → ℕ → RtlParameter
number name n = record { name = name; value = values.Number n }

abbrev pub mask : List ℕ → List Bool → RtlParameter
mask name bs = record { name = name; value = values.Bits bs }

abbrev pub to : List ℕ → List SigPart → RtlEnd
to name spec = record { name = name; spec = spec }

abbrev pub binary : CellKind → List ℕ → (signed b_signed width b_width y_width : ℕ) → List SigPart → List SigPart → List SigPart → RtlCell
binary kind id signed b_signed width b_width y_width a b y = record {
  kind = kind;
  id = id;
  parameters = number (codes "\\A_SIGNED") signed ∷ number (codes "\\A_WIDTH") width ∷ number (codes "\\B_SIGNED") b_signed ∷ number (codes "\\B_WIDTH") b_width ∷ number (codes "\\Y_WIDTH") y_width ∷ [];
  ends = to (codes "\\A") a ∷ to (codes "\\B") b ∷ to (codes "\\Y") y ∷ [];
}

abbrev pub unary : CellKind → List ℕ → (width y_width : ℕ) → List SigPart → List SigPart → RtlCell
unary kind id width y_width a y = record {
  kind = kind;
  id = id;
  parameters = number (codes "\\A_SIGNED") 0 ∷ number (codes "\\A_WIDTH") width ∷ number (codes "\\Y_WIDTH") y_width ∷ [];
  ends = to (codes "\\A") a ∷ to (codes "\\Y") y ∷ [];
}

abbrev pub mux : List ℕ → ℕ → List SigPart → List SigPart → List SigPart → List SigPart → RtlCell
mux id width a b s y = record {
  kind = Mux;
  id = id;
  parameters = number (codes "\\WIDTH") width ∷ [];
  ends = to (codes "\\A") a ∷ to (codes "\\B") b ∷ to (codes "\\S") s ∷ to (codes "\\Y") y ∷ [];
}

abbrev pub register : List ℕ → ℕ → (edge : ℕ) → List SigPart → List SigPart → List SigPart → RtlCell
register id width edge clk d q = record {
  kind = Dff;
  id = id;
  parameters = number (codes "\\WIDTH") width ∷ number (codes "\\CLK_POLARITY") edge ∷ [];
  ends = to (codes "\\CLK") clk ∷ to (codes "\\D") d ∷ to (codes "\\Q") q ∷ [];
}
