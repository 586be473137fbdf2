-- What follows where the bits that are needed are there.
use Rattle.std.proofs.Common.{◌≡◌, ℕ, zero, suc, ◌+◌, ◌-◌, ◌<◌, ◌≤◌, ◌==◌, Bool, true, false, cond, List, [], ◌∷◌, ◌++◌, refl, sym, ◌∙◌, ap, arith, ⊎_elim, ℤ}
use Rattle.std.specs.Prelude.{Some, nat_lt, length, slice_get, option_map, option_and_then, replicate}
use Rattle.std.specs.List.{AllByRecursion, flat_map, range_with_len}
use Rattle.std.proofs.lemmas.Bool.{cond_below, cond_above, cond_both, ltb-true, cases_lt}
use Rattle.amh_bits.specs.Patterns.{IsOf}
use Rattle.amh_bits.proofs.Same.{past_unsigned, past_signed}
use Rattle.shape_rules.specs.Forms.{Form, IsForm}
use Rattle.design_ir.specs.declared.ids.ExprId.{ExprId}
use Rattle.design_ir.specs.Targets.{Bit}
use Rattle.design_ir.specs.Needed.{extended, every}
use Rattle.rtlil_text.specs.Sources.{Constant, Net, spec_bits}
use Rattle.rtlil_text.specs.Cells.{bit_at}
use Rattle.rtlil_text.specs.Meaning.{source_value}
use Rattle.rtlil_text.specs.History.{Wires}
use Rattle.netlist_laws.specs.Operands.{wire_part, filling, at_width}
use Rattle.netlist_laws.specs.Made.{Known, known_form, SignalHas, IsMade}
use Rattle.netlist_laws.proofs.Places.{length-wire_part, slice_get-const_part}
use Rattle.netlist_laws.proofs.Reading.{bit_of, HasBits, bit_at-wire_part, bit_at_left, bit_at_right, slice_get-replicate, spec_bits-replicate}

-- ---- parts of what holds of all

pub all_left : {A : Type 0} (P : A → Type 0) (xs ys : List A) → AllByRecursion P (xs ++ ys) → AllByRecursion P xs
all_left P [] ys h = tt
all_left P (x ∷ xs) ys h = (h.0, all_left P xs ys h.1)

pub all_right : {A : Type 0} (P : A → Type 0) (xs ys : List A) → AllByRecursion P (xs ++ ys) → AllByRecursion P ys
all_right P [] ys h = h
all_right P (x ∷ xs) ys h = all_right P xs ys h.1

all_each : {A : Type 0} (P : A → Type 0) (bits : ℕ → List A) (a n k : ℕ) → AllByRecursion P (flat_map bits (range_with_len a n)) → a ≤ k → k < a + n → AllByRecursion P (bits k)
all_each P bits a zero k h low high = absurd (omega arith)
all_each P bits a (suc n) k h low high =
    ⊎_elim
    (λ (lt : a < k). all_each P bits (a + 1) n k (all_right P (bits a) (flat_map bits (range_with_len (a + 1) n)) h) (omega arith) (omega arith))
    (λ (ge : k ≤ a). let e : a ≡ k = omega arith in rw (← e) (all_left P (bits a) (flat_map bits (range_with_len (a + 1) n)) h))
    (cases_lt a k)

-- ---- of an expression that is made

-- where every bit that it needs is there, its wire has its integer
pub made_every : (wires : Wires) (c : Known) (e : ExprId) → IsMade wires c e → AllByRecursion (SignalHas wires c) (every (known_form c e.0) (c.needed e.0)) → HasBits wires (c.value e.0).id (known_form c e.0).width (c.num e.0)
made_every wires c e m h = record {
  at = λ i l. m.bits i l (all_each (SignalHas wires c) (c.needed e.0) 0 (known_form c e.0).width i h (omega arith) (omega arith));
}

-- ---- bit k of a wire at a width

pub bit_at-low : (wires : Wires) (id : List ℕ) (s : Bool) (w width k : ℕ) → k < width → k < w → bit_at (source_value wires) (spec_bits (at_width id (record { width = w; signed = s }) width)) k ≡ wires id k
bit_at-low wires id s w width k h low =
    let e : 0 + k ≡ k = omega arith in
    cond_both (nat_lt width w) (wire_part id 0 width) (filling id (record { width = w; signed = s }) (width - w) ++ wire_part id 0 w) (λ spec. bit_at (source_value wires) (spec_bits spec) k ≡ wires id k)
    (λ t. bit_at-wire_part wires id 0 width k h ∙ ap (wires id) e)
    (λ t. bit_at_left wires (filling id (record { width = w; signed = s }) (width - w)) (wire_part id 0 w) k (let d : k < length (spec_bits (wire_part id 0 w)) = omega (arith, length-wire_part id 0 w) in d) ∙ bit_at-wire_part wires id 0 w k low ∙ ap (wires id) e)

filled : (wires : Wires) (id : List ℕ) (s : Bool) (w n k : ℕ) → k < n → bit_at (source_value wires) (spec_bits (filling id (record { width = w; signed = s }) n)) k ≡ cond s (wires id (w - 1)) (Some false)
filled wires id true w n k h =
    ap (λ s. option_and_then (source_value wires) (slice_get s k)) (spec_bits-replicate id (w - 1) n) ∙ ap (option_and_then (source_value wires)) (slice_get-replicate (Net id (w - 1)) n k h)
filled wires id false w n k h =
    ap (option_and_then (source_value wires)) (slice_get-const_part (replicate n false) k ∙ ap (option_map Constant) (slice_get-replicate false n k h))

pub bit_at-past : (wires : Wires) (id : List ℕ) (s : Bool) (w width k : ℕ) → k < width → w ≤ k → bit_at (source_value wires) (spec_bits (at_width id (record { width = w; signed = s }) width)) k ≡ cond s (wires id (w - 1)) (Some false)
bit_at-past wires id s w width k h past =
    let e : w + (k - w) ≡ k = omega arith in
    cond_both (nat_lt width w) (wire_part id 0 width) (filling id (record { width = w; signed = s }) (width - w) ++ wire_part id 0 w) (λ spec. bit_at (source_value wires) (spec_bits spec) k ≡ cond s (wires id (w - 1)) (Some false))
    (λ t. absurd (omega (arith, ltb-true width w t)))
    (λ t. ap (bit_at (source_value wires) (spec_bits (filling id (record { width = w; signed = s }) (width - w) ++ wire_part id 0 w))) (sym e)
    ∙ bit_at_right wires (filling id (record { width = w; signed = s }) (width - w)) (wire_part id 0 w) w (k - w) (length-wire_part id 0 w)
    ∙ filled wires id s w (width - w) (k - w) (omega arith))

-- past the width, what is needed is the highest bit of a signed number, and nothing of an unsigned one
past_has : (wires : Wires) (c : Known) (id : List ℕ) (s : Bool) (w k : ℕ) (x : ℤ) (bits : ℕ → List Bit) → IsForm w s → IsOf s w x
    → ((i : ℕ) → i < w → AllByRecursion (SignalHas wires c) (bits i) → wires id i ≡ Some (bit_of x i)) → w ≤ k → AllByRecursion (SignalHas wires c) (cond s (bits (w - 1)) []) → cond s (wires id (w - 1)) (Some false) ≡ Some (bit_of x k)
past_has wires c id false w k x bits p f made past h = ap (λ d. Some (d == 1)) (sym (past_unsigned w k x f past))
past_has wires c id true zero k x bits p f made past h = absurd (omega (arith, p.0))
past_has wires c id true (suc w) k x bits p f made past h =
    made (suc w - 1) (omega arith) h ∙ ap (λ i. Some (bit_of x i)) (let e : suc w - 1 ≡ w = omega arith in e) ∙ ap (λ d. Some (d == 1)) (sym (past_signed w k x f (omega arith)))

-- bit k of an expression at a width, where the bits are there that it needs
pub made_extended : (wires : Wires) (c : Known) (e : ExprId) (width k : ℕ) → IsMade wires c e → k < width → AllByRecursion (SignalHas wires c) (extended (known_form c e.0) (c.needed e.0) k)
    → bit_at (source_value wires) (spec_bits (at_width (c.value e.0).id (known_form c e.0) width)) k ≡ Some (bit_of (c.num e.0) k)
made_extended wires c e width k m wide h =
    let f : Form = known_form c e.0 in
    let id : List ℕ = (c.value e.0).id in
    let past : List Bit = cond f.signed (c.needed e.0 (f.width - 1)) [] in
    ⊎_elim
    (λ (low : k < f.width). bit_at-low wires id f.signed f.width width k wide low ∙ m.bits k low (rw (← cond_below k f.width (c.needed e.0 k) past low) at h))
    (λ (le : f.width ≤ k). bit_at-past wires id f.signed f.width width k wide le
    ∙ past_has wires c id f.signed f.width k (c.num e.0) (c.needed e.0) m.shape m.integer m.bits le (rw (← cond_above k f.width (c.needed e.0 k) past past le refl) at h))
    (cases_lt k f.width)
