-- Registers over a few events, worked out by hand.
use Rattle.std.specs.Prelude.{◌≡◌, refl, ℕ, Bool, true, false, List, [], ◌∷◌, map, Option, Some, None, codes}
use Rattle.shape_rules.specs.declared.cell.CellKind.TheVariants.{Not, Adff}
use Rattle.rtlil_text.specs.declared.module.WirePort.TheVariants.{Inner, Input, Output}
use Rattle.rtlil_text.specs.declared.module.RtlWire.{RtlWire}
use Rattle.rtlil_text.specs.declared.module.RtlModule.{RtlModule}
use Rattle.rtlil_text.specs.Meaning.{Inputs}
use Rattle.rtlil_text.specs.History.{Wires, rtl_history, wire_bit}
use Rattle.rtlil_text.proofs.Builders.{wire, whole, number, mask, to, unary, register}

-- the bits of q after each event
abbrev q_after : RtlModule → Inputs → List Inputs → List (Option Bool)
q_after m first events = map (λ (wires : Wires). wires (codes "\\q") 0) (rtl_history m first events)

clock : Bool → Inputs
clock b = (codes "\\clk", b ∷ []) ∷ []

q_from : Option (List Bool) → RtlWire
q_from first = record { id = codes "\\q"; width = 1; port = Output 2; init = first }

-- q takes what it is not, at each edge of this polarity
toggling : Option (List Bool) → (edge : ℕ) → RtlModule
toggling first edge = record {
  wires = wire (codes "\\clk") 1 (Input 1) ∷ q_from first ∷ wire (codes "$1") 1 Inner ∷ [];
  memories = [];
  cells = unary Not (codes "$2") 1 1 (whole (codes "\\q") 1) (whole (codes "$1") 1) ∷ register (codes "$3") 1 edge (whole (codes "\\clk") 1) (whole (codes "$1") 1) (whole (codes "\\q") 1) ∷ [];
  links = [];
}

rising : q_after (toggling (Some (true ∷ [])) 1) (clock false) (clock true ∷ clock true ∷ clock false ∷ clock true ∷ []) ≡ Some true ∷ Some false ∷ Some false ∷ Some false ∷ Some true ∷ []
unfolding toggling q_from clock wire_bit
rising = refl

falling : q_after (toggling (Some (true ∷ [])) 0) (clock false) (clock true ∷ clock false ∷ clock true ∷ clock false ∷ []) ≡ Some true ∷ Some true ∷ Some false ∷ Some false ∷ Some true ∷ []
unfolding toggling q_from clock wire_bit
falling = refl

-- a register without a first value has none
no_first_value : q_after (toggling None 1) (clock false) (clock true ∷ []) ≡ None ∷ None ∷ []
unfolding toggling q_from clock wire_bit
no_first_value = refl

-- ---- two registers of two clocks, which see the values from before where both clocks rise

swapping : RtlModule
swapping = record {
  wires = wire (codes "\\c") 1 (Input 1) ∷ wire (codes "\\d") 1 (Input 2) ∷ record (wire (codes "\\q") 1 (Output 3)) { init = Some (true ∷ []) } ∷ record (wire (codes "\\r") 1 (Output 4)) { init = Some (false ∷ []) } ∷ [];
  memories = [];
  cells = register (codes "$1") 1 1 (whole (codes "\\c") 1) (whole (codes "\\r") 1) (whole (codes "\\q") 1) ∷ register (codes "$2") 1 1 (whole (codes "\\d") 1) (whole (codes "\\q") 1) (whole (codes "\\r") 1) ∷ [];
  links = [];
}

clocks : Bool → Bool → Inputs
clocks c d = (codes "\\c", c ∷ []) ∷ (codes "\\d", d ∷ []) ∷ []

-- both rise and they change places, then one alone rises
swapped : map {B = Option Bool × Option Bool} (λ (wires : Wires). (wires (codes "\\q") 0, wires (codes "\\r") 0)) (rtl_history swapping (clocks false false) (clocks true true ∷ clocks false false ∷ clocks false true ∷ []))
    ≡ (Some true, Some false) ∷ (Some false, Some true) ∷ (Some false, Some true) ∷ (Some false, Some false) ∷ []
unfolding swapping clocks wire_bit
swapped = refl

-- ---- a register with a reset that waits for no clock

resetting : (level : ℕ) → RtlModule
resetting level = record {
  wires = wire (codes "\\clk") 1 (Input 1) ∷ wire (codes "\\rst") 1 (Input 2) ∷ wire (codes "\\d") 1 (Input 3) ∷ record (wire (codes "\\q") 1 (Output 4)) { init = Some (false ∷ []) } ∷ [];
  memories = [];
  cells = record {
    kind = Adff;
    id = codes "$1";
    parameters = number (codes "\\WIDTH") 1 ∷ number (codes "\\CLK_POLARITY") 1 ∷ number (codes "\\ARST_POLARITY") level ∷ mask (codes "\\ARST_VALUE") (true ∷ []) ∷ [];
    ends = to (codes "\\ARST") (whole (codes "\\rst") 1) ∷ to (codes "\\CLK") (whole (codes "\\clk") 1) ∷ to (codes "\\D") (whole (codes "\\d") 1) ∷ to (codes "\\Q") (whole (codes "\\q") 1) ∷ [];
  } ∷ [];
  links = [];
}

with_reset : (clk rst d : Bool) → Inputs
with_reset clk rst d = (codes "\\clk", clk ∷ []) ∷ (codes "\\rst", rst ∷ []) ∷ (codes "\\d", d ∷ []) ∷ []

-- the reset comes without an edge and holds at one; when it is gone, the next edge takes d
reset_at_once : q_after (resetting 1) (with_reset false false false) (with_reset false true false ∷ with_reset true true false ∷ with_reset false false false ∷ with_reset true false false ∷ []) ≡ Some false ∷ Some true ∷ Some true ∷ Some true ∷ Some false ∷ []
unfolding resetting with_reset wire_bit
reset_at_once = refl

-- a reset that is low where it holds
low_reset : q_after (resetting 0) (with_reset false true false) (with_reset false false false ∷ with_reset false true false ∷ with_reset true true false ∷ []) ≡ Some false ∷ Some true ∷ Some true ∷ Some false ∷ []
unfolding resetting with_reset wire_bit
low_reset = refl
