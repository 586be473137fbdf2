-- Common shapes are no narrower than either, and what a wire reads as at its own width or less.
use Rattle.std.proofs.Common.{◌≡◌, ℕ, ◌+◌, ◌-◌, ◌<◌, ◌≤◌, ◌==◌, Bool, true, false, List, [], ◌++◌, refl, sym, ◌∙◌, ap, arith, ℤ}
use Rattle.std.specs.Prelude.{Some, nat_lt}
use Rattle.std.proofs.lemmas.Bool.{cond_both, ltb-false}
use Rattle.std.proofs.lemmas.List.Elements.{All-head}
use Rattle.amh_bits.specs.Patterns.{nat_bit, wrap}
use Rattle.amh_bits.proofs.BitsOf.{bit_pattern}
use Rattle.amh_bits.proofs.Wraps.{pattern_wrap}
use Rattle.shape_rules.specs.Forms.{Form, common_width}
use Rattle.shape_rules.specs.Operators.{truth}
use Rattle.rtlil_text.specs.declared.sig.SigPart.{SigPart}
use Rattle.rtlil_text.specs.Sources.{Net, spec_bits}
use Rattle.rtlil_text.specs.Cells.{bit_at}
use Rattle.rtlil_text.specs.Meaning.{source_value}
use Rattle.rtlil_text.specs.History.{Wires}
use Rattle.netlist_laws.specs.Operands.{wire_part, filling, at_width}
use Rattle.netlist_laws.specs.Operators.{Value, linked, one_bit}
use Rattle.netlist_laws.specs.Carried.{ObeysLink, Obeys}
use Rattle.netlist_laws.proofs.Places.{slice_get-wire_part}
use Rattle.netlist_laws.proofs.Reading.{bit_of, HasBits, Reads, reads_low, reads_above, length-filling}

pub common_width_left : (s t : Bool) (w v : ℕ) → w ≤ common_width s t w v
common_width_left false false w v = omega arith
common_width_left true true w v = omega arith
common_width_left true false w v = omega arith
common_width_left false true w v = omega arith

pub common_width_right : (s t : Bool) (w v : ℕ) → v ≤ common_width s t w v
common_width_right false false w v = omega arith
common_width_right true true w v = omega arith
common_width_right true false w v = omega arith
common_width_right false true w v = omega arith

-- ---- at its own width or less, a wire reads as what it has, also where that is not of the shape

narrow : (wires : Wires) (id : List ℕ) (s : Bool) (w width : ℕ) (x : ℤ) → width ≤ w → HasBits wires id w x → Reads wires (at_width id (record { width = w; signed = s }) width) width x
narrow wires id s w width x le b =
    cond_both (nat_lt width w) (wire_part id 0 width) (filling id (record { width = w; signed = s }) (width - w) ++ wire_part id 0 w) (λ spec. Reads wires spec width x)
    (λ e. reads_low wires id w width x le b)
    (λ e. reads_above wires (filling id (record { width = w; signed = s }) (width - w)) (wire_part id 0 w) w (width - w) width x (omega (arith, ltb-false width w e)) (reads_low wires id w w x (omega arith) b) (length-filling id s w (width - w))
    (λ k h. absurd (omega (arith, ltb-false width w e))))

pub reads_narrow : (wires : Wires) (id : List ℕ) (f : Form) (width : ℕ) (x : ℤ) → width ≤ f.width → HasBits wires id f.width x → Reads wires (at_width id f width) width x
reads_narrow wires id f width x le b = narrow wires id f.signed f.width width x le b

-- ---- other integers with the same bits

pub has_same : (wires : Wires) (id : List ℕ) (w : ℕ) (x z : ℤ) → ((i : ℕ) → i < w → bit_of x i ≡ bit_of z i) → HasBits wires id w x → HasBits wires id w z
has_same wires id w x z same b = record { at = λ i h. b.at i h ∙ ap Some (same i h) }

pub has_equal : (wires : Wires) (id : List ℕ) (w : ℕ) (x z : ℤ) → x ≡ z → HasBits wires id w x → HasBits wires id w z
has_equal wires id w x z e b = has_same wires id w x z (λ i h. ap (λ u. bit_of u i) e) b

pub has_low : (wires : Wires) (id : List ℕ) (w v : ℕ) (x : ℤ) → v ≤ w → HasBits wires id w x → HasBits wires id v x
has_low wires id w v x le b = record { at = λ i h. b.at i (omega arith) }

pub reads_same : (wires : Wires) (spec : List SigPart) (w : ℕ) (x z : ℤ) → ((i : ℕ) → i < w → bit_of x i ≡ bit_of z i) → Reads wires spec w x → Reads wires spec w z
reads_same wires spec w x z same r = record { wide = r.wide; at = λ k h. r.at k h ∙ ap Some (same k h) }

-- wrapping keeps the low bits
pub bit_of-wrap : (s : Bool) (w : ℕ) (x : ℤ) (i : ℕ) → i < w → bit_of (wrap s w x) i ≡ bit_of x i
bit_of-wrap s w x i h =
    ap (λ b. b == 1) (sym (bit_pattern (wrap s w x) w i h) ∙ ap (λ (n : ℕ). nat_bit n i) (pattern_wrap s w x) ∙ bit_pattern x w i h)

-- ---- links

pub linked_bits : (wires : Wires) (y : Value) (spec : List SigPart) (v : ℕ) (x : ℤ) → Reads wires spec v x → y.form.width ≤ v → Obeys wires (linked y spec) → HasBits wires y.id y.form.width x
linked_bits wires y spec v x r le o = record {
  at = λ i h.
      All-head (ObeysLink wires) (record { left = wire_part y.id 0 y.form.width; right = spec }) [] o.links i y.id i (slice_get-wire_part y.id 0 y.form.width i h ∙ ap (λ j. Some (Net y.id j)) (let d : 0 + i ≡ i = omega arith in d))
      ∙ r.at i (omega arith);
}

-- ---- a wire of one bit

pub bit_of-truth : (t : Bool) → bit_of (truth t) 0 ≡ t
bit_of-truth true = refl
bit_of-truth false = refl

pub has_truth : (wires : Wires) (id : List ℕ) (w : ℕ) (t : Bool) → w ≡ 1 → wires id 0 ≡ Some t → HasBits wires id w (truth t)
has_truth wires id w t e b = record {
  at = λ i h. let d : i ≡ 0 = omega arith in ap (wires id) d ∙ b ∙ ap Some (sym (bit_of-truth t)) ∙ ap (λ j. Some (bit_of (truth t) j)) (sym d);
}

pub one_bit_is : (wires : Wires) (id : List ℕ) (t : Bool) → HasBits wires id 1 (truth t) → bit_at (source_value wires) (spec_bits (one_bit id)) 0 ≡ Some t
one_bit_is wires id t b = b.at 0 (omega arith) ∙ ap Some (bit_of-truth t)
