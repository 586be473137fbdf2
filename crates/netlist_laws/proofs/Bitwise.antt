-- Cells that make each bit from the bits of its place: turned, both, either, one of two, and choices.
use Rattle.std.proofs.Common.{◌≡◌, ℕ, zero, suc, ◌*◌, ◌<◌, ◌≤◌, ◌==◌, Bool, true, false, cond, not, ◌&&◌, ◌||◌, List, refl, sym, ◌∙◌, ap, arith, ℤ, bit_or, bit_xor}
use Rattle.std.specs.Prelude.{Option, Some, option_map, codes}
use Rattle.amh_bits.specs.Patterns.{int_bit}
use Rattle.amh_bits.specs.Integers.{int_and, int_or, int_xor}
use Rattle.amh_bits.proofs.BitsOf.{int_bit_low, int_bit_and, int_bit_or, int_bit_xor}
use Rattle.shape_rules.specs.declared.cell.CellKind.{CellKind}
use Rattle.shape_rules.specs.declared.cell.CellKind.TheVariants as kind
use Rattle.rtlil_text.specs.declared.sig.SigPart.{SigPart}
use Rattle.rtlil_text.specs.declared.cell.RtlCell.{RtlCell}
use Rattle.rtlil_text.specs.Sources.{Source, spec_bits, end_bits}
use Rattle.rtlil_text.specs.CellTables.{output_of}
use Rattle.rtlil_text.specs.Cells.{cell_bit, bit_at, both, mux_bit, xor}
use Rattle.rtlil_text.specs.Meaning.{source_value}
use Rattle.rtlil_text.specs.History.{Wires}
use Rattle.netlist_laws.specs.Cells.{Operand, unary_cell, binary_cell, mux_cell}
use Rattle.netlist_laws.specs.Operands.{wire_part}
use Rattle.netlist_laws.specs.Carried.{ObeysCell}
use Rattle.netlist_laws.proofs.Reading.{bit_of, HasBits, Reads}
use Rattle.netlist_laws.proofs.Whole.{driven}

-- the kinds that make each bit of Y from those of A and B at its place
pub record IsBitwise (k : CellKind) (f : Bool → Bool → Bool) : Type 0 where
  pub output : output_of k ≡ codes "\\Y"
  pub bit : (value : Source → Option Bool) (c : RtlCell) (width i : ℕ) → cell_bit value c width i k ≡ both f (bit_at value (end_bits c (codes "\\A")) i) (bit_at value (end_bits c (codes "\\B")) i)

pub and_bitwise : IsBitwise kind.And ◌&&◌
and_bitwise = record { output = refl; bit = λ value c width i. refl }

pub or_bitwise : IsBitwise kind.Or ◌||◌
or_bitwise = record { output = refl; bit = λ value c width i. refl }

pub xor_bitwise : IsBitwise kind.Xor xor
xor_bitwise = record { output = refl; bit = λ value c width i. refl }

-- ---- one bit, from the bits of its place alone

both_some : (f : Bool → Bool → Bool) (x y : Option Bool) (p q : Bool) → x ≡ Some p → y ≡ Some q → both f x y ≡ Some (f p q)
both_some f x y p q d e = rw (d, e) refl

pub bitwise_bit : (wires : Wires) (k : CellKind) (f : Bool → Bool → Bool) (name : List ℕ) (a b : Operand) (width : ℕ) (id : List ℕ) (w i : ℕ) (p q : Bool) → IsBitwise k f
    → bit_at (source_value wires) (spec_bits a.spec) i ≡ Some p → bit_at (source_value wires) (spec_bits b.spec) i ≡ Some q → i < w
    → ObeysCell wires (binary_cell k name a b width (wire_part id 0 w)) → wires id i ≡ Some (f p q)
bitwise_bit wires k f name a b width id w i p q kind d e h o =
    driven wires (binary_cell k name a b width (wire_part id 0 w)) id w (ap (end_bits (binary_cell k name a b width (wire_part id 0 w))) kind.output) o i h
    ∙ kind.bit (source_value wires) (binary_cell k name a b width (wire_part id 0 w)) w i
    ∙ both_some f (bit_at (source_value wires) (spec_bits a.spec) i) (bit_at (source_value wires) (spec_bits b.spec) i) p q d e

pub not_bit : (wires : Wires) (name : List ℕ) (a : Operand) (width : ℕ) (id : List ℕ) (w i : ℕ) (p : Bool)
    → bit_at (source_value wires) (spec_bits a.spec) i ≡ Some p → i < w
    → ObeysCell wires (unary_cell kind.Not name a width (wire_part id 0 w)) → wires id i ≡ Some (not p)
not_bit wires name a width id w i p d h o =
    driven wires (unary_cell kind.Not name a width (wire_part id 0 w)) id w refl o i h ∙ ap (option_map not) d

mux_some : (s x y : Option Bool) (t p q : Bool) → s ≡ Some t → x ≡ Some p → y ≡ Some q → mux_bit s x y ≡ Some (cond t q p)
mux_some s x y t p q c d e = rw (c, d, e) refl

pub mux_cell_bit : (wires : Wires) (name : List ℕ) (width : ℕ) (a b s : List SigPart) (id : List ℕ) (w i : ℕ) (t p q : Bool)
    → bit_at (source_value wires) (spec_bits s) 0 ≡ Some t → bit_at (source_value wires) (spec_bits a) i ≡ Some p → bit_at (source_value wires) (spec_bits b) i ≡ Some q → i < w
    → ObeysCell wires (mux_cell name width a b s (wire_part id 0 w)) → wires id i ≡ Some (cond t q p)
mux_cell_bit wires name width a b s id w i t p q c d e h o =
    driven wires (mux_cell name width a b s (wire_part id 0 w)) id w refl o i h
    ∙ mux_some (bit_at (source_value wires) (spec_bits s) 0) (bit_at (source_value wires) (spec_bits a) i) (bit_at (source_value wires) (spec_bits b) i) t p q c d e

-- ---- all bits

-- an operator of integers that makes each bit from the two at its place
abbrev pub IsByBits : (Bool → Bool → Bool) → (ℤ → ℤ → ℤ) → Type 0
IsByBits f op = (x z : ℤ) (i : ℕ) → f (bit_of x i) (bit_of z i) ≡ bit_of (op x z) i

-- a fact on two bits, by its four cases
two_bits : (P : ℕ → ℕ → Type 0) (x y : ℕ) → x < 2 → y < 2 → P 0 0 → P 0 1 → P 1 0 → P 1 1 → P x y
two_bits P zero zero p q a b c d = a
two_bits P zero (suc zero) p q a b c d = b
two_bits P (suc zero) zero p q a b c d = c
two_bits P (suc zero) (suc zero) p q a b c d = d
two_bits P (suc (suc x)) y p q a b c d = absurd (omega arith)
two_bits P zero (suc (suc y)) p q a b c d = absurd (omega arith)
two_bits P (suc zero) (suc (suc y)) p q a b c d = absurd (omega arith)

pub and_by_bits : IsByBits ◌&&◌ int_and
and_by_bits x z i =
    two_bits (λ m n. ((m == 1) && (n == 1)) ≡ (m * n == 1)) (int_bit x i) (int_bit z i) (int_bit_low x i) (int_bit_low z i) refl refl refl refl ∙ ap (λ b. b == 1) (sym (int_bit_and x z i))

pub or_by_bits : IsByBits ◌||◌ int_or
or_by_bits x z i =
    two_bits (λ m n. ((m == 1) || (n == 1)) ≡ (bit_or m n == 1)) (int_bit x i) (int_bit z i) (int_bit_low x i) (int_bit_low z i) refl refl refl refl ∙ ap (λ b. b == 1) (sym (int_bit_or x z i))

pub xor_by_bits : IsByBits xor int_xor
xor_by_bits x z i =
    two_bits (λ m n. xor (m == 1) (n == 1) ≡ (bit_xor m n == 1)) (int_bit x i) (int_bit z i) (int_bit_low x i) (int_bit_low z i) refl refl refl refl ∙ ap (λ b. b == 1) (sym (int_bit_xor x z i))

pub bitwise_cell : (wires : Wires) (k : CellKind) (f : Bool → Bool → Bool) (op : ℤ → ℤ → ℤ) (name : List ℕ) (a b : Operand) (width : ℕ) (id : List ℕ) (w v : ℕ) (x z : ℤ) → IsBitwise k f → IsByBits f op
    → Reads wires a.spec v x → Reads wires b.spec v z → w ≤ v → ObeysCell wires (binary_cell k name a b width (wire_part id 0 w)) → HasBits wires id w (op x z)
bitwise_cell wires k f op name a b width id w v x z kind law d e wide o = record {
  at = λ i h. bitwise_bit wires k f name a b width id w i (bit_of x i) (bit_of z i) kind (d.at i (omega arith)) (e.at i (omega arith)) h o ∙ ap Some (law x z i);
}

cond-bit : (t : Bool) (x z : ℤ) (i : ℕ) → cond t (bit_of z i) (bit_of x i) ≡ bit_of (cond t z x) i
cond-bit true x z i = refl
cond-bit false x z i = refl

-- z where the bit of s is set, else x
pub mux_cell_bits : (wires : Wires) (name : List ℕ) (width : ℕ) (a b s : List SigPart) (id : List ℕ) (w : ℕ) (t : Bool) (x z : ℤ)
    → bit_at (source_value wires) (spec_bits s) 0 ≡ Some t → Reads wires a w x → Reads wires b w z
    → ObeysCell wires (mux_cell name width a b s (wire_part id 0 w)) → HasBits wires id w (cond t z x)
mux_cell_bits wires name width a b s id w t x z c d e o = record {
  at = λ i h. mux_cell_bit wires name width a b s id w i t (bit_of x i) (bit_of z i) c (d.at i h) (e.at i h) h o ∙ ap Some (cond-bit t x z i);
}
