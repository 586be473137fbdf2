-- Pieces of texts, and what stands under a name, worked out by hand.
use Rattle.std.specs.Prelude.{◌≡◌, refl, ℕ, Bool, true, false, List, [], ◌∷◌, codes, Some, None}
use Rattle.rtlil_text.specs.Numerals.{numeral}
use Rattle.rtlil_text.specs.declared.sig.SigPart.{SigPart}
use Rattle.rtlil_text.specs.declared.sig.SigPart.TheVariants as parts
use Rattle.rtlil_text.specs.declared.cell.RtlValue.TheVariants as values
use Rattle.rtlil_text.specs.declared.module.WirePort.TheVariants.{Inner, Output}
use Rattle.rtlil_text.specs.Gate.{gate, gate_cell, bit_of, bit_wire}
use Rattle.rtlil_text.specs.Lines.{memory_text, parameter_text, wire_text}
use Rattle.rtlil_text.specs.Sources.{wire_of, parameter_of, end_of, field_of}
use Rattle.rtlil_text.specs.Written.{width_among, end_text}
use Rattle.rtlil_text.proofs.Builders.{wire, number, mask, to}

-- ---- specs: \a has eight bits, and a spec begins with its highest part

connected : List SigPart → List ℕ
connected spec = end_text (width_among (wire (codes "\\a") 8 Inner ∷ [])) (to (codes "\\D") spec)

a : (low width : ℕ) → SigPart
a low width = parts.Wire (codes "\\a") low width

-- from the lowest bit on
three : List Bool
three = true ∷ true ∷ false ∷ false ∷ []

whole_wire : connected (a 0 8 ∷ []) ≡ codes "    connect \\D \\a\n"
unfolding connected a numeral
whole_wire = refl

one_bit : connected (a 7 1 ∷ []) ≡ codes "    connect \\D \\a [7]\n"
unfolding connected a numeral
one_bit = refl

slice : connected (a 4 4 ∷ []) ≡ codes "    connect \\D \\a [7:4]\n"
unfolding connected a numeral
slice = refl

constant : connected (parts.Const three ∷ []) ≡ codes "    connect \\D 4'0011\n"
unfolding connected three numeral
constant = refl

three_parts : connected (parts.Const (true ∷ []) ∷ a 0 8 ∷ a 0 7 ∷ []) ≡ codes "    connect \\D { 1'1 \\a \\a [6:0] }\n"
unfolding connected a numeral
three_parts = refl

no_parts : connected [] ≡ codes "    connect \\D { }\n"
unfolding connected
no_parts = refl

-- a wire that the module does not have is never whole
unknown : end_text (width_among []) (to (codes "\\D") (a 0 8 ∷ [])) ≡ codes "    connect \\D \\a [7:0]\n"
unfolding a numeral
unknown = refl

-- ---- lines

memory : memory_text (record { id = codes "\\rows"; width = 8; size = 4 }) ≡ codes "  memory width 8 size 4 \\rows\n"
unfolding numeral
memory = refl

first_values : wire_text (record { id = codes "\\q"; width = 4; port = Output 12; init = Some three }) ≡ codes "  attribute \\init 4'0011\n  wire width 4 output 12 \\q\n"
unfolding three numeral
first_values = refl

id_parameter : parameter_text (record { name = codes "\\MEMID"; value = values.Id (codes "\\rows") }) ≡ codes "    parameter \\MEMID \"\\\\rows\"\n"
id_parameter = refl

bits_parameter : parameter_text (mask (codes "\\PRIORITY_MASK") (true ∷ false ∷ [])) ≡ codes "    parameter \\PRIORITY_MASK 2'01\n"
unfolding numeral
bits_parameter = refl

number_parameter : parameter_text (number (codes "\\WIDTH") 16) ≡ codes "    parameter \\WIDTH 16\n"
unfolding numeral
number_parameter = refl

-- ---- names

wires : (wire_of gate (codes "\\y") ≡ Some (bit_wire (codes "\\y") (Output 3))) × (wire_of gate (codes "\\z") ≡ None)
unfolding gate
wires = (refl, refl)

fields : (field_of (bit_wire (codes "\\y") (Output 3)) (codes "width") ≡ Some 1) × (field_of (bit_wire (codes "\\y") (Output 3)) (codes "output") ≡ Some 3) × (field_of (bit_wire (codes "\\y") (Output 3)) (codes "input") ≡ None)
fields = (refl, refl, refl)

parameters : (parameter_of gate_cell (codes "\\Y_WIDTH") ≡ Some (values.Number 1)) × (parameter_of gate_cell (codes "\\WIDTH") ≡ None)
parameters = (refl, refl)

ends : (end_of gate_cell (codes "\\B") ≡ Some (bit_of (codes "\\b"))) × (end_of gate_cell (codes "\\Q") ≡ None)
ends = (refl, refl)
