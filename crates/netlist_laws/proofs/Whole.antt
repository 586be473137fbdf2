-- Cells that take their operands whole: the bits of the output are those of the integer result.
use Rattle.std.proofs.Common.{◌≡◌, ℕ, ◌+◌, ◌<◌, ◌==◌, Bool, true, false, List, length, refl, ◌∙◌, ap, arith, ℤ}
use Rattle.std.specs.Prelude.{Option, Some, slice_get, codes}
use Rattle.amh_bits.specs.Patterns.{pattern, IsOf}
use Rattle.shape_rules.specs.declared.cell.CellKind.{CellKind}
use Rattle.rtlil_text.specs.declared.cell.RtlCell.{RtlCell}
use Rattle.rtlil_text.specs.Sources.{Source, Net, spec_bits, end_bits, number_at}
use Rattle.rtlil_text.specs.CellTables.{output_of}
use Rattle.rtlil_text.specs.Cells.{number_bits, integer, result_of, sign_read, cell_bit, whole_bit, read}
use Rattle.rtlil_text.specs.Meaning.{source_value}
use Rattle.rtlil_text.specs.History.{Wires}
use Rattle.rtlil_text.proofs.CellLaws.{integer-number_bits}
use Rattle.netlist_laws.specs.Cells.{Operand, binary_cell, flag}
use Rattle.netlist_laws.specs.Operands.{wire_part}
use Rattle.netlist_laws.specs.Carried.{IsIn, ObeysCell}
use Rattle.netlist_laws.proofs.Places.{length-wire_part, slice_get-wire_part}
use Rattle.netlist_laws.proofs.Reading.{HasBits, Reads, slice_get-pattern, reads_whole}

-- what a cell drives onto the low bits of a wire
pub driven : (wires : Wires) (c : RtlCell) (id : List ℕ) (w : ℕ) → end_bits c (output_of c.kind) ≡ spec_bits (wire_part id 0 w) → ObeysCell wires c
    → (i : ℕ) → i < w → wires id i ≡ cell_bit (source_value wires) c w i c.kind
driven wires c id w e o i h =
    o i id i (ap (λ s. slice_get s i) e ∙ slice_get-wire_part id 0 w i h ∙ ap (λ j. Some (Net id j)) (let d : 0 + i ≡ i = omega arith in d))
    ∙ ap (λ n. cell_bit (source_value wires) c n i c.kind) (ap length e ∙ length-wire_part id 0 w)

-- the kinds that take A and B whole and drive Y
pub record IsWhole (k : CellKind) : Type 0 where
  pub output : output_of k ≡ codes "\\Y"
  pub bit : (value : Source → Option Bool) (c : RtlCell) (width i : ℕ) → cell_bit value c width i k ≡ whole_bit value c width i

flag_is : (b : Bool) → (flag b == 1) ≡ b
flag_is true = refl
flag_is false = refl

-- what a cell reads of an operand of its shape
pub integer_read : (b : Bool) (width : ℕ) (x : ℤ) → IsOf b width x → integer (flag b) (number_bits width (pattern width x)) ≡ x
integer_read b width x h = integer-number_bits (flag b) width x (rw (flag_is b) h)

whole_bit_is : (value : Source → Option Bool) (c : RtlCell) (width i : ℕ) (us vs : List Bool) (r : ℤ)
    → read value (end_bits c (codes "\\A")) ≡ Some us → read value (end_bits c (codes "\\B")) ≡ Some vs
    → result_of c.kind (integer (sign_read c.kind (number_at c (codes "\\A_SIGNED"))) us) (integer (number_at c (codes "\\B_SIGNED")) vs) ≡ Some r
    → whole_bit value c width i ≡ slice_get (number_bits width (pattern width r)) i
whole_bit_is value c width i us vs r p q e = rw (p, q, e) refl

-- a cell whose operands read as x and z, of which it makes the integer r
pub whole_cell : (wires : Wires) (k : CellKind) (name : List ℕ) (a b : Operand) (width : ℕ) (id : List ℕ) (w : ℕ) (x z u r : ℤ) → IsWhole k
    → Reads wires a.spec a.form.width x → Reads wires b.spec b.form.width z
    → integer (sign_read k (flag a.form.signed)) (number_bits a.form.width (pattern a.form.width x)) ≡ u → IsIn b.form z
    → result_of k u z ≡ Some r
    → ObeysCell wires (binary_cell k name a b width (wire_part id 0 w)) → HasBits wires id w r
whole_cell wires k name a b width id w x z u r kind p q e f makes o = record {
  at = λ i h.
      driven wires (binary_cell k name a b width (wire_part id 0 w)) id w (ap (end_bits (binary_cell k name a b width (wire_part id 0 w))) kind.output) o i h
      ∙ kind.bit (source_value wires) (binary_cell k name a b width (wire_part id 0 w)) w i
      ∙ whole_bit_is (source_value wires) (binary_cell k name a b width (wire_part id 0 w)) w i (number_bits a.form.width (pattern a.form.width x)) (number_bits b.form.width (pattern b.form.width z)) r
      (reads_whole wires a.spec a.form.width x p) (reads_whole wires b.spec b.form.width z q)
      (rw (e, integer_read b.form.signed b.form.width z f) makes)
      ∙ slice_get-pattern w r i h;
}

-- the same where the operands are numbers of their shapes, and the cell reads the sign of the first
pub signed_cell : (wires : Wires) (k : CellKind) (name : List ℕ) (a b : Operand) (width : ℕ) (id : List ℕ) (w : ℕ) (x z r : ℤ) → IsWhole k → ((s : ℕ) → sign_read k s ≡ s)
    → Reads wires a.spec a.form.width x → Reads wires b.spec b.form.width z → IsIn a.form x → IsIn b.form z
    → result_of k x z ≡ Some r
    → ObeysCell wires (binary_cell k name a b width (wire_part id 0 w)) → HasBits wires id w r
signed_cell wires k name a b width id w x z r kind sign p q f g makes o =
    whole_cell wires k name a b width id w x z x r kind p q (ap (λ s. integer s (number_bits a.form.width (pattern a.form.width x))) (sign (flag a.form.signed)) ∙ integer_read a.form.signed a.form.width x f) g makes o
