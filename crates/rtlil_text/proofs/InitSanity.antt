-- First values of small modules, worked out by hand.
use Rattle.std.specs.Prelude.{◌≡◌, ℕ, true, false, List, [], ◌∷◌, Some, codes}
use Rattle.std.proofs.Common.{refl}
use Rattle.shape_rules.specs.declared.cell.CellKind.TheVariants.{Dff}
use Rattle.rtlil_text.specs.declared.sig.SigPart.TheVariants as parts
use Rattle.rtlil_text.specs.declared.cell.RtlCell.{RtlCell}
use Rattle.rtlil_text.specs.declared.module.WirePort.TheVariants.{Inner, Input}
use Rattle.rtlil_text.specs.declared.module.RtlModule.{RtlModule}
use Rattle.rtlil_text.specs.Sources.{Net}
use Rattle.rtlil_text.specs.Gate.{bit_wire, bit_end, number_parameter}
use Rattle.rtlil_text.specs.Inits.{register_bits, first_bits}

-- a register of two bits, of which one cell keeps the low one and one the high one
half : List ℕ → ℕ → RtlCell
half id i = record {
  kind = Dff;
  id = id;
  parameters = number_parameter (codes "\\WIDTH") 1 ∷ number_parameter (codes "\\CLK_POLARITY") 1 ∷ [];
  ends = bit_end (codes "\\CLK") (codes "\\clk") ∷ bit_end (codes "\\D") (codes "\\d") ∷ record { name = codes "\\Q"; spec = parts.Wire (codes "\\q") i 1 ∷ [] } ∷ [];
}

halves : RtlModule
halves = record {
  wires = bit_wire (codes "\\clk") (Input 1) ∷ bit_wire (codes "\\d") (Input 2) ∷ record { id = codes "\\q"; width = 2; port = Inner; init = Some (true ∷ false ∷ []) } ∷ [];
  memories = [];
  cells = half (codes "$1") 0 ∷ half (codes "$2") 1 ∷ [];
  links = [];
}

halves_begin : first_bits halves ≡ Net (codes "\\q") 0 ∷ Net (codes "\\q") 1 ∷ []
unfolding halves
halves_begin = refl

halves_are_kept : register_bits halves ≡ first_bits halves
unfolding halves half
halves_are_kept = refl
