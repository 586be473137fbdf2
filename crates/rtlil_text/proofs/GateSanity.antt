-- One AND gate: its text, and what it does.
use Rattle.std.proofs.Common.{◌≡◌, refl, subst, ℕ, Bool, true, false, List, [], ◌∷◌, map, codes, All, inl, inr, arith, IsTrue}
use Rattle.std.specs.Prelude.{Some, None, Contains}
use Rattle.rtlil_text.specs.Numerals.{numeral}
use Rattle.std.proofs.lemmas.List.Elements.{All-from_recursion, All-nil}
use Rattle.rtlil_text.specs.declared.cell.RtlParameter.{RtlParameter}
use Rattle.rtlil_text.specs.declared.cell.RtlEnd.{RtlEnd}
use Rattle.rtlil_text.specs.declared.module.WirePort.{WirePort}
use Rattle.rtlil_text.specs.declared.module.WirePort.TheVariants.{Inner, Input, Output}
use Rattle.rtlil_text.specs.declared.module.RtlWire.{RtlWire}
use Rattle.lists.specs.Names.{IsName, starts_name, continues_name}
use Rattle.rtlil_text.specs.Ids.{IsId, IsPublicId}
use Rattle.rtlil_text.specs.Rules.{IsModule, ValueFits, SpecFits, PartFits, WireFits, CellFits, LinkFits, module_ids}
use Rattle.rtlil_text.specs.MemoryRules.{MemoryFits}
use Rattle.rtlil_text.specs.Reads.{Reads}
use Rattle.rtlil_text.specs.Written.{width_among, text_of}
use Rattle.rtlil_text.specs.Meaning.{Inputs, bit}
use Rattle.rtlil_text.specs.History.{rtl_history, first_state, wire_bit}
use Rattle.rtlil_text.specs.Gate.{gate, gate_cell, bit_of, bit_wire}
use Rattle.rtlil_text.proofs.Spelled.{Reads-module_text}
use Rattle.rtlil_text.proofs.Distinct.{AreDistinct-are_distinct}
use Rattle.rtlil_text.proofs.Found.{AreWidths-width_among}

pub public_letter : (letter : ℕ) → IsTrue (starts_name letter) → IsPublicId (92 ∷ letter ∷ [])
public_letter letter h = (letter ∷ [], record { name = letter ∷ []; more = []; suffix = []; first = one_letter; others = All-nil IsName; ends = inl refl; whole = refl }, refl)
  where
    one_letter : IsName (letter ∷ [])
    one_letter = record { first = letter; rest = []; whole = refl; starts = h; continues = All-nil (λ b. IsTrue (continues_name b)) }

pub public : (letter : ℕ) → IsTrue (starts_name letter) → IsId (92 ∷ letter ∷ [])
public letter h = inl (public_letter letter h)

gate_ids : All IsId (module_ids gate)
unfolding gate numeral
gate_ids = All-from_recursion IsId (module_ids gate) (public 97 refl, (public 98 refl, (public 121 refl, (inr (1, refl), (inr (2, refl), tt)))))

-- a wire of one bit, whole
one_bit : (wires : List RtlWire) (w : RtlWire) → Contains wires w → w.width ≡ 1 → SpecFits wires (bit_of w.id)
one_bit wires w h e = All-from_recursion (PartFits wires) (bit_of w.id) (record { wire = w; among = h; named = refl; some = omega arith; within = omega (arith, e) }, tt)

gate_cell_fits : CellFits gate gate_cell
unfolding gate
gate_cell_fits = record {
  parameters = refl;
  values = All-from_recursion (λ (p : RtlParameter). ValueFits p.value) gate_cell.parameters (tt, (tt, (tt, (tt, (tt, tt)))));
  ends = refl;
  specs = All-from_recursion (λ (e : RtlEnd). SpecFits gate.wires e.spec) gate_cell.ends
      (one_bit gate.wires (bit_wire (codes "\\a") (Input 1)) (0, omega arith, refl) refl, (one_bit gate.wires (bit_wire (codes "\\b") (Input 2)) (1, omega arith, refl) refl, (one_bit gate.wires (bit_wire (codes "$1") Inner) (3, omega arith, refl) refl, tt)));
  rules = record {
    widths = record { a = refl; b = refl; y = refl; sign_a = omega arith; sign_b = omega arith };
    equal_b = refl;
    equal_y = refl;
    same_sign = refl;
  };
}

a_wire : {id : List ℕ} {port : WirePort} → WireFits (bit_wire id port)
a_wire = record { wide = omega arith; init = tt }

pub IsModule-gate : IsModule gate
unfolding gate
IsModule-gate = record {
  distinct = AreDistinct-are_distinct (module_ids gate) refl;
  ids = gate_ids;
  wires = All-from_recursion WireFits gate.wires (a_wire, (a_wire, (a_wire, (a_wire, tt))));
  memories = All-nil (MemoryFits gate);
  cells = All-from_recursion (CellFits gate) gate.cells (gate_cell_fits, tt);
  links = All-from_recursion (LinkFits gate) gate.links (record { left = one_bit gate.wires (bit_wire (codes "\\y") (Output 3)) (2, omega arith, refl) refl; right = one_bit gate.wires (bit_wire (codes "$1") Inner) (3, omega arith, refl) refl; equal = refl }, tt);
  ports = refl;
  drivers = record { moves = (0, 1) ∷ []; below = (omega arith, omega arith, tt); is = refl };
}

gate_text : List ℕ
gate_text =
    codes "attribute \\top 1\nmodule \\top\n  wire width 1 input 1 \\a\n  wire width 1 input 2 \\b\n  wire width 1 output 3 \\y\n  wire width 1 $1\n  cell $and $2\n    parameter \\A_SIGNED 0\n    parameter \\A_WIDTH 1\n    parameter \\B_SIGNED 0\n    parameter \\B_WIDTH 1\n    parameter \\Y_WIDTH 1\n    connect \\A \\a\n    connect \\B \\b\n    connect \\Y $1\n  end\n  connect \\y $1\nend\n"

gate_text_is : text_of gate ≡ gate_text
unfolding gate gate_text numeral
gate_text_is = refl

-- the text stands for the module
gate_reads : Reads gate_text gate
gate_reads = subst (λ t. Reads t gate) gate_text_is (Reads-module_text gate (width_among gate.wires) (AreWidths-width_among gate.wires) IsModule-gate)

inputs : Bool → Bool → Inputs
inputs a b = (codes "\\a", a ∷ []) ∷ (codes "\\b", b ∷ []) ∷ []

-- a rises, b rises, a falls, b falls
gate_history : map (λ wires. wires (codes "\\y") 0) (rtl_history gate (inputs false false) (inputs true false ∷ inputs true true ∷ inputs false true ∷ inputs false false ∷ [])) ≡ Some false ∷ Some false ∷ Some true ∷ Some false ∷ Some false ∷ []
unfolding gate inputs wire_bit
gate_history = refl

-- two steps do not reach from y to the inputs
gate_shallow : bit gate (first_state gate) (inputs true true) 2 (codes "\\y") 0 ≡ None
unfolding gate inputs
gate_shallow = refl
