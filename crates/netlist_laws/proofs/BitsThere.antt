-- Where a bit at the output of a cell has a value, so has each bit from which the cell makes it.
use Rattle.std.specs.Prelude.{◌≡◌, ℕ, zero, suc, ◌+◌, ◌<◌, Bool, List, [], ◌∷◌, length, slice_get, Option, Some, None, option_map, option_and_then, codes, ℤ}
use Rattle.std.proofs.Common.{refl, sym, ap, ◌∙◌, arith, subst}
use Rattle.amh_bits.specs.Patterns.{pattern}
use Rattle.shape_rules.specs.Forms.{Form}
use Rattle.shape_rules.specs.declared.cell.CellKind.{CellKind}
use Rattle.shape_rules.specs.declared.cell.CellKind.TheVariants as kind
use Rattle.rtlil_text.specs.declared.sig.SigPart.{SigPart}
use Rattle.rtlil_text.specs.declared.cell.RtlCell.{RtlCell}
use Rattle.rtlil_text.specs.Sources.{Source, spec_bits, end_bits, number_at}
use Rattle.rtlil_text.specs.Cells.{number_bits, integer, sign_read, result_of, result_bits, read, bit_at, both, mux_bit}
use Rattle.rtlil_text.specs.Meaning.{source_value}
use Rattle.rtlil_text.specs.History.{Wires}
use Rattle.netlist_laws.specs.Cells.{Operand, unary_cell, binary_cell, mux_cell}
use Rattle.netlist_laws.specs.Operands.{wire_part, at_width}
use Rattle.netlist_laws.specs.Carried.{ObeysCell}
use Rattle.netlist_laws.proofs.Reading.{slice_get-pattern, bit_at-wire_part}
use Rattle.netlist_laws.proofs.NeededBits.{bit_at-low}
use Rattle.netlist_laws.proofs.Whole.{driven, IsWhole}
use Rattle.netlist_laws.proofs.Bitwise.{IsBitwise}

-- the value is not missing
abbrev pub IsThere : {A : Type 0} → Option A → Type 0
IsThere {A} x = (a : A) × (x ≡ Some a)

-- each bit of the wire has a value
abbrev pub IsDefined : Wires → List ℕ → ℕ → Type 0
IsDefined wires id width = (i : ℕ) → i < width → IsThere (wires id i)

-- ---- values that may be missing

mux_there : (s a b : Option Bool) → IsThere (mux_bit s a b) → IsThere s × IsThere a × IsThere b
mux_there None a b (v, e) = cc
mux_there (Some s) None b (v, e) = cc
mux_there (Some s) (Some a) None (v, e) = cc
mux_there (Some s) (Some a) (Some b) h = ((s, refl), (a, refl), (b, refl))

both_there : (f : Bool → Bool → Bool) (a b : Option Bool) → IsThere (both f a b) → IsThere a × IsThere b
both_there f None b (v, e) = cc
both_there f (Some a) None (v, e) = cc
both_there f (Some a) (Some b) h = ((a, refl), (b, refl))

map_there : (f : Bool → Bool) (a : Option Bool) → IsThere (option_map f a) → IsThere a
map_there f None (v, e) = cc
map_there f (Some a) h = (a, refl)

cons_there : (x : Option Bool) (xs : Option (List Bool)) → IsThere (option_and_then (λ v. option_map (λ vs. v ∷ vs) xs) x) → IsThere x × IsThere xs
cons_there None xs (v, e) = cc
cons_there (Some x) None (v, e) = cc
cons_there (Some x) (Some xs) h = ((x, refl), (xs, refl))

read_there : (value : Source → Option Bool) (ss : List Source) → IsThere (read value ss) → (k : ℕ) → k < length ss → IsThere (bit_at value ss k)
read_there value [] h k l = absurd (omega arith)
read_there value (s ∷ ss) h zero l = (cons_there (value s) (read value ss) h).0
read_there value (s ∷ ss) h (suc k) l = read_there value ss (cons_there (value s) (read value ss) h).1 k (omega arith)

-- ---- an operand that is taken whole

low_there : (width i j : ℕ) (z : Option ℤ) → j < width → IsThere (option_and_then (λ y. slice_get y i) (option_map (λ z. number_bits width (pattern width z)) z)) → IsThere (option_and_then (λ y. slice_get y j) (option_map (λ z. number_bits width (pattern width z)) z))
low_there width i j None l (v, e) = cc
low_there width i j (Some z) l h = (_, slice_get-pattern width z j l)

-- bit i of what a cell makes of two operands, if they are there
abbrev made_bit : RtlCell → ℕ → ℕ → Option (List Bool) → Option (List Bool) → Option Bool
made_bit c width i us vs = option_and_then (λ a. option_and_then (λ b. option_and_then (λ y. slice_get y i) (result_bits c width a b)) vs) us

pub record AreTaken (c : RtlCell) (width : ℕ) (us vs : Option (List Bool)) : Type 0 where
  pub first : IsThere us
  pub second : IsThere vs
  pub others : (j : ℕ) → j < width → IsThere (made_bit c width j us vs)

made_there : (c : RtlCell) (width i : ℕ) (us vs : Option (List Bool)) → IsThere (made_bit c width i us vs) → AreTaken c width us vs
made_there c width i None vs (v, e) = cc
made_there c width i (Some a) None (v, e) = cc
made_there c width i (Some a) (Some b) h = record {
  first = (a, refl);
  second = (b, refl);
  others = λ j l. low_there width i j (result_of c.kind (integer (sign_read c.kind (number_at c (codes "\\A_SIGNED"))) a) (integer (number_at c (codes "\\B_SIGNED")) b)) l h;
}

-- ---- cells

module _ (wires : Wires) where
  -- the bits at an end of a cell have values
  abbrev pub AreRead : List SigPart → Type 0
  AreRead spec = (k : ℕ) → k < length (spec_bits spec) → IsThere (bit_at (source_value wires) (spec_bits spec) k)

  pub record MuxTakes (a b s : List SigPart) (i : ℕ) : Type 0 where
    pub choice : IsThere (bit_at (source_value wires) (spec_bits s) 0)
    pub first : IsThere (bit_at (source_value wires) (spec_bits a) i)
    pub second : IsThere (bit_at (source_value wires) (spec_bits b) i)

  pub mux_takes : (name : List ℕ) (width : ℕ) (a b s : List SigPart) (id : List ℕ) (w i : ℕ) → i < w → ObeysCell wires (mux_cell name width a b s (wire_part id 0 w)) → IsThere (wires id i) → MuxTakes a b s i
  mux_takes name width a b s id w i h o t =
      let r = mux_there (bit_at (source_value wires) (spec_bits s) 0) (bit_at (source_value wires) (spec_bits a) i) (bit_at (source_value wires) (spec_bits b) i)
      (subst IsThere (driven wires (mux_cell name width a b s (wire_part id 0 w)) id w refl o i h) t) in
      record { choice = r.0; first = r.1; second = r.2 }

  pub bitwise_takes : (k : CellKind) (f : Bool → Bool → Bool) (name : List ℕ) (a b : Operand) (width : ℕ) (id : List ℕ) (w i : ℕ) → IsBitwise k f → i < w
      → ObeysCell wires (binary_cell k name a b width (wire_part id 0 w)) → IsThere (wires id i)
      → IsThere (bit_at (source_value wires) (spec_bits a.spec) i) × IsThere (bit_at (source_value wires) (spec_bits b.spec) i)
  bitwise_takes k f name a b width id w i kind h o t =
      let c : RtlCell = binary_cell k name a b width (wire_part id 0 w) in
      both_there f (bit_at (source_value wires) (spec_bits a.spec) i) (bit_at (source_value wires) (spec_bits b.spec) i)
      (subst IsThere (driven wires c id w (ap (end_bits c) kind.output) o i h ∙ kind.bit (source_value wires) c w i) t)

  pub not_takes : (name : List ℕ) (a : Operand) (width : ℕ) (id : List ℕ) (w i : ℕ) → i < w → ObeysCell wires (unary_cell kind.Not name a width (wire_part id 0 w)) → IsThere (wires id i)
      → IsThere (bit_at (source_value wires) (spec_bits a.spec) i)
  not_takes name a width id w i h o t =
      map_there _ (bit_at (source_value wires) (spec_bits a.spec) i) (subst IsThere (driven wires (unary_cell kind.Not name a width (wire_part id 0 w)) id w refl o i h) t)

  pub record WholeTakes (a b : List SigPart) (id : List ℕ) (w : ℕ) : Type 0 where
    pub first : AreRead a
    pub second : AreRead b
    pub output : IsDefined wires id w

  pub whole_takes : (k : CellKind) (name : List ℕ) (a b : Operand) (width : ℕ) (id : List ℕ) (w i : ℕ) → IsWhole k → i < w
      → ObeysCell wires (binary_cell k name a b width (wire_part id 0 w)) → IsThere (wires id i) → WholeTakes a.spec b.spec id w
  whole_takes k name a b width id w i kind h o t =
      let c : RtlCell = binary_cell k name a b width (wire_part id 0 w) in
      let is = λ (j : ℕ) (l : j < w). driven wires c id w (ap (end_bits c) kind.output) o j l ∙ kind.bit (source_value wires) c w j in
      let r = made_there c w i (read (source_value wires) (spec_bits a.spec)) (read (source_value wires) (spec_bits b.spec)) (subst IsThere (is i h) t) in
      record {
        first = read_there (source_value wires) (spec_bits a.spec) r.first;
        second = read_there (source_value wires) (spec_bits b.spec) r.second;
        output = λ j l. subst IsThere (sym (is j l)) (r.others j l);
      }

  -- ---- from an end to a wire

  pub part_there : (id : List ℕ) (w k : ℕ) → k < w → IsThere (bit_at (source_value wires) (spec_bits (wire_part id 0 w)) k) → IsThere (wires id k)
  part_there id w k h t = subst IsThere (bit_at-wire_part wires id 0 w k h ∙ ap (wires id) (let e : 0 + k ≡ k = omega arith in e)) t

  pub at_width_there : (id : List ℕ) (g : Form) (width k : ℕ) → k < width → k < g.width → IsThere (bit_at (source_value wires) (spec_bits (at_width id g width)) k) → IsThere (wires id k)
  at_width_there id g width k h l t = subst IsThere (bit_at-low wires id g.signed g.width width k h l) t
