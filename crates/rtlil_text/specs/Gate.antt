-- The module of one AND gate, for sanity theorems.
-- Internal: no rule of the language.
use Rattle.std.specs.Prelude.{ℕ, List, [], ◌∷◌, codes, None}
use Rattle.shape_rules.specs.declared.cell.CellKind.TheVariants.{And}
use Rattle.rtlil_text.specs.declared.sig.SigPart.{SigPart}
use Rattle.rtlil_text.specs.declared.sig.SigPart.TheVariants as parts
use Rattle.rtlil_text.specs.declared.cell.RtlValue.TheVariants as values
use Rattle.rtlil_text.specs.declared.cell.RtlParameter.{RtlParameter}
use Rattle.rtlil_text.specs.declared.cell.RtlEnd.{RtlEnd}
use Rattle.rtlil_text.specs.declared.cell.RtlCell.{RtlCell}
use Rattle.rtlil_text.specs.declared.module.WirePort.{WirePort}
use Rattle.rtlil_text.specs.declared.module.WirePort.TheVariants.{Inner, Input, Output}
use Rattle.rtlil_text.specs.declared.module.RtlWire.{RtlWire}
use Rattle.rtlil_text.specs.declared.module.RtlModule.{RtlModule}

abbrev pub bit_wire : List ℕ → WirePort → RtlWire
bit_wire id port = record { id = id; width = 1; port = port; init = None }

abbrev pub bit_of : List ℕ → List SigPart
bit_of id = parts.Wire id 0 1 ∷ []

abbrev pub number_parameter : List ℕ → ℕ → RtlParameter
number_parameter name n = record { name = name; value = values.Number n }

abbrev pub bit_end : List ℕ → List ℕ → RtlEnd
bit_end name id = record { name = name; spec = bit_of id }

abbrev pub gate_cell : RtlCell
gate_cell = record {
  kind = And;
  id = codes "$2";
  parameters = number_parameter (codes "\\A_SIGNED") 0 ∷ number_parameter (codes "\\A_WIDTH") 1 ∷ number_parameter (codes "\\B_SIGNED") 0 ∷ number_parameter (codes "\\B_WIDTH") 1 ∷ number_parameter (codes "\\Y_WIDTH") 1 ∷ [];
  ends = bit_end (codes "\\A") (codes "\\a") ∷ bit_end (codes "\\B") (codes "\\b") ∷ bit_end (codes "\\Y") (codes "$1") ∷ [];
}

unfoldable pub gate : RtlModule
gate = record {
  wires = bit_wire (codes "\\a") (Input 1) ∷ bit_wire (codes "\\b") (Input 2) ∷ bit_wire (codes "\\y") (Output 3) ∷ bit_wire (codes "$1") Inner ∷ [];
  memories = [];
  cells = gate_cell ∷ [];
  links = record { left = bit_of (codes "\\y"); right = bit_of (codes "$1") } ∷ [];
}
