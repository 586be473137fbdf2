-- Specs that read as the low bits of an integer.
use Rattle.std.proofs.Common.{◌≡◌, ℕ, zero, suc, ◌+◌, ◌-◌, ◌<◌, ◌≤◌, ◌^◌, ◌==◌, Bool, true, false, List, [], ◌∷◌, ◌++◌, length, replicate, refl, sym, ◌∙◌, ap, arith, ⊎_elim, ℤ}
use Rattle.std.specs.Prelude.{Option, Some, slice_get, option_map, option_and_then, nat_lt}
use Rattle.std.proofs.lemmas.Bool.{cond_both, ltb-true, ltb-false, cases_lt}
use Rattle.amh_bits.specs.Integers.{floor_quotient}
use Rattle.amh_bits.specs.Patterns.{pattern, int_bit, IsOf}
use Rattle.amh_bits.proofs.BitsOf.{bit_pattern, int_bit_down}
use Rattle.amh_bits.proofs.Same.{past_unsigned, past_signed}
use Rattle.shape_rules.specs.Forms.{Form}
use Rattle.rtlil_text.specs.declared.sig.SigPart.{SigPart}
use Rattle.rtlil_text.specs.declared.sig.SigPart.TheVariants as parts
use Rattle.rtlil_text.specs.Sources.{Source, Constant, Net, spec_bits}
use Rattle.rtlil_text.specs.Cells.{number_bits, bit_at, read}
use Rattle.rtlil_text.specs.Meaning.{source_value}
use Rattle.rtlil_text.specs.History.{Wires}
use Rattle.rtlil_text.proofs.CellLaws.{slice_get-number_bits, length-number_bits}
use Rattle.netlist_laws.specs.Operands.{wire_part, const_spec, filling, at_width}
use Rattle.netlist_laws.specs.Operators.{Value}
use Rattle.netlist_laws.specs.Carried.{IsIn, Carries}
use Rattle.netlist_laws.proofs.Places.{slice_get-append_left, slice_get-append_right, length-wire_part, slice_get-wire_part, length-const_part, slice_get-const_part, spec_bits-append, length-spec_append}

-- bit k of an integer, as a truth value
abbrev pub bit_of : ℤ → ℕ → Bool
bit_of x k = int_bit x k == 1

-- the low bits of a wire are those of an integer
pub record HasBits (wires : Wires) (id : List ℕ) (width : ℕ) (x : ℤ) : Type 0 where
  pub at : (i : ℕ) → i < width → wires id i ≡ Some (bit_of x i)

-- the spec has so many bits, and they are those of an integer
pub record Reads (wires : Wires) (spec : List SigPart) (width : ℕ) (x : ℤ) : Type 0 where
  pub wide : length (spec_bits spec) ≡ width
  pub at : (k : ℕ) → k < width → bit_at (source_value wires) (spec_bits spec) k ≡ Some (bit_of x k)

-- a signed shape has a bit
abbrev pub HasSign : Form → Type 0
HasSign f = f.signed ≡ true → 1 ≤ f.width

pub slice_get-pattern : (width : ℕ) (x : ℤ) (k : ℕ) → k < width → slice_get (number_bits width (pattern width x)) k ≡ Some (bit_of x k)
slice_get-pattern width x k h = slice_get-number_bits width (pattern width x) k h ∙ ap (λ b. Some (b == 1)) (bit_pattern x width k h)

-- ---- wires

pub has_carried : (wires : Wires) (v : Value) (x : ℤ) → Carries wires v x → HasBits wires v.id v.form.width x
has_carried wires v x c = record { at = λ i h. c i h ∙ slice_get-pattern v.form.width x i h }

pub carries_bits : (wires : Wires) (v : Value) (x : ℤ) → HasBits wires v.id v.form.width x → Carries wires v x
carries_bits wires v x b = λ i h. b.at i h ∙ sym (slice_get-pattern v.form.width x i h)

-- ---- parts of wires, and constants

pub bit_at-wire_part : (wires : Wires) (id : List ℕ) (low width k : ℕ) → k < width → bit_at (source_value wires) (spec_bits (wire_part id low width)) k ≡ wires id (low + k)
bit_at-wire_part wires id low width k h = ap (option_and_then (source_value wires)) (slice_get-wire_part id low width k h)

-- bits of a wire from a place on, which are those of the integer divided by a power of two
pub reads_part : (wires : Wires) (id : List ℕ) (width low n : ℕ) (x : ℤ) → low + n ≤ width → HasBits wires id width x → Reads wires (wire_part id low n) n (floor_quotient x (2 ^ low))
reads_part wires id width low n x fits b = record {
  wide = length-wire_part id low n;
  at = λ k h. bit_at-wire_part wires id low n k h ∙ b.at (low + k) (omega arith) ∙ ap (λ d. Some (d == 1)) (sym (int_bit_down x low k));
}

-- the low bits of a wire
pub reads_low : (wires : Wires) (id : List ℕ) (width n : ℕ) (x : ℤ) → n ≤ width → HasBits wires id width x → Reads wires (wire_part id 0 n) n x
reads_low wires id width n x fits b = record {
  wide = length-wire_part id 0 n;
  at = λ k h. bit_at-wire_part wires id 0 n k h ∙ ap (wires id) (let e : 0 + k ≡ k = omega arith in e) ∙ b.at k (omega arith);
}

pub reads_const : (wires : Wires) (width : ℕ) (x : ℤ) → Reads wires (const_spec width x) width x
reads_const wires width x = record {
  wide = length-const_part (number_bits width (pattern width x)) ∙ length-number_bits width (pattern width x);
  at = λ k h. ap (option_and_then (source_value wires)) (slice_get-const_part (number_bits width (pattern width x)) k ∙ ap (option_map Constant) (slice_get-pattern width x k h));
}

-- ---- what stands above a wire's bits

replicate-snoc : {A : Type 0} (a : A) (n : ℕ) → replicate n a ++ (a ∷ []) ≡ a ∷ replicate n a
replicate-snoc a zero = refl
replicate-snoc a (suc n) = ap (λ s. a ∷ s) (replicate-snoc a n)

pub slice_get-replicate : {A : Type 0} (a : A) (n k : ℕ) → k < n → slice_get (replicate n a) k ≡ Some a
slice_get-replicate a zero k h = absurd (omega arith)
slice_get-replicate a (suc n) zero h = refl
slice_get-replicate a (suc n) (suc k) h = slice_get-replicate a n k (omega arith)

pub length-replicate : {A : Type 0} (a : A) (n : ℕ) → length (replicate n a) ≡ n
length-replicate a zero = refl
length-replicate a (suc n) = ap suc (length-replicate a n)

pub spec_bits-replicate : (id : List ℕ) (place n : ℕ) → spec_bits (replicate n (parts.Wire id place 1)) ≡ replicate n (Net id place)
spec_bits-replicate id place zero = refl
spec_bits-replicate id place (suc n) = ap (λ s. s ++ (Net id place ∷ [])) (spec_bits-replicate id place n) ∙ replicate-snoc (Net id place) n

pub length-filling : (id : List ℕ) (s : Bool) (w n : ℕ) → length (spec_bits (filling id (record { width = w; signed = s }) n)) ≡ n
length-filling id true w n = ap length (spec_bits-replicate id (w - 1) n) ∙ length-replicate (Net id (w - 1)) n
length-filling id false w n = length-const_part (replicate n false) ∙ length-replicate false n

bit_at-filling : (wires : Wires) (id : List ℕ) (s : Bool) (w n k : ℕ) (x : ℤ) → (s ≡ true → 1 ≤ w) → IsOf s w x → HasBits wires id w x → k < n
    → bit_at (source_value wires) (spec_bits (filling id (record { width = w; signed = s }) n)) k ≡ Some (bit_of x (w + k))
bit_at-filling wires id true zero n k x some f b h = absurd (omega (arith, some refl))
bit_at-filling wires id true (suc w) n k x some f b h =
    ap (λ s. option_and_then (source_value wires) (slice_get s k)) (spec_bits-replicate id (suc w - 1) n)
    ∙ ap (option_and_then (source_value wires)) (slice_get-replicate (Net id (suc w - 1)) n k h)
    ∙ ap (wires id) (let e : suc w - 1 ≡ w = omega arith in e)
    ∙ b.at w (omega arith)
    ∙ ap (λ d. Some (d == 1)) (sym (past_signed w (suc w + k) x f (omega arith)))
bit_at-filling wires id false w n k x some f b h =
    ap (option_and_then (source_value wires)) (slice_get-const_part (replicate n false) k ∙ ap (option_map Constant) (slice_get-replicate false n k h))
    ∙ ap (λ d. Some (d == 1)) (sym (past_unsigned w (w + k) x f (omega arith)))

-- ---- at a width

pub bit_at_left : (wires : Wires) (high low : List SigPart) (k : ℕ) → k < length (spec_bits low) → bit_at (source_value wires) (spec_bits (high ++ low)) k ≡ bit_at (source_value wires) (spec_bits low) k
bit_at_left wires high low k h =
    ap (option_and_then (source_value wires)) (ap (λ s. slice_get s k) (spec_bits-append high low) ∙ slice_get-append_left (spec_bits low) (spec_bits high) k h)

pub bit_at_right : (wires : Wires) (high low : List SigPart) (w k : ℕ) → length (spec_bits low) ≡ w → bit_at (source_value wires) (spec_bits (high ++ low)) (w + k) ≡ bit_at (source_value wires) (spec_bits high) k
bit_at_right wires high low w k e =
    ap (λ j. bit_at (source_value wires) (spec_bits (high ++ low)) (j + k)) (sym e)
    ∙ ap (option_and_then (source_value wires)) (ap (λ s. slice_get s (length (spec_bits low) + k)) (spec_bits-append high low) ∙ slice_get-append_right (spec_bits low) (spec_bits high) k)

-- bits above others: those of an integer, from a place on
pub reads_above : (wires : Wires) (high low : List SigPart) (w n width : ℕ) (x : ℤ) → w + n ≡ width → Reads wires low w x → length (spec_bits high) ≡ n
    → ((k : ℕ) → k < n → bit_at (source_value wires) (spec_bits high) k ≡ Some (bit_of x (w + k))) → Reads wires (high ++ low) width x
reads_above wires high low w n width x e r wide above = record {
  wide = length-spec_append high low ∙ (let d : length (spec_bits low) + length (spec_bits high) ≡ width = omega (arith, wide, r.wide) in d);
  at = λ k h. ⊎_elim
      (λ (below : k < w). bit_at_left wires high low k (rw r.wide below) ∙ r.at k below)
      (λ (le : w ≤ k). let d : w + (k - w) ≡ k = omega arith in
      ap (bit_at (source_value wires) (spec_bits (high ++ low))) (sym d) ∙ bit_at_right wires high low w (k - w) r.wide ∙ above (k - w) (omega arith) ∙ ap (λ j. Some (bit_of x j)) d)
      (cases_lt k w);
}

at_width_reads : (wires : Wires) (id : List ℕ) (s : Bool) (w width : ℕ) (x : ℤ) → (s ≡ true → 1 ≤ w) → IsOf s w x → HasBits wires id w x → Reads wires (at_width id (record { width = w; signed = s }) width) width x
at_width_reads wires id s w width x some f b =
    cond_both (nat_lt width w) (wire_part id 0 width) (filling id (record { width = w; signed = s }) (width - w) ++ wire_part id 0 w) (λ spec. Reads wires spec width x)
    (λ e. reads_low wires id w width x (omega (arith, ltb-true width w e)) b)
    (λ e. reads_above wires (filling id (record { width = w; signed = s }) (width - w)) (wire_part id 0 w) w (width - w) width x (omega (arith, ltb-false width w e)) (reads_low wires id w w x (omega arith) b) (length-filling id s w (width - w))
    (λ k h. bit_at-filling wires id s w (width - w) k x some f b h))

-- the number of a wire of a shape, at any width
pub reads_at_width : (wires : Wires) (id : List ℕ) (f : Form) (width : ℕ) (x : ℤ) → HasSign f → IsIn f x → HasBits wires id f.width x → Reads wires (at_width id f width) width x
reads_at_width wires id f width x some i b = at_width_reads wires id f.signed f.width width x some i b

-- ---- all bits at once

all_of-some : (value : Source → Option Bool) (sources : List Source) (bits : List Bool) → length sources ≡ length bits → ((k : ℕ) → k < length bits → bit_at value sources k ≡ slice_get bits k) → read value sources ≡ Some bits
all_of-some value [] [] e h = refl
all_of-some value [] (b ∷ bs) e h = absurd (omega arith)
all_of-some value (s ∷ ss) [] e h = absurd (omega arith)
all_of-some value (s ∷ ss) (b ∷ bs) e h =
    let first : value s ≡ Some b = h zero (omega arith) in
    let others : read value ss ≡ Some bs = all_of-some value ss bs (omega arith) (λ k l. h (suc k) (omega arith)) in
    rw (first, others) refl

-- the bits of a spec as a list
pub reads_whole : (wires : Wires) (spec : List SigPart) (width : ℕ) (x : ℤ) → Reads wires spec width x → read (source_value wires) (spec_bits spec) ≡ Some (number_bits width (pattern width x))
reads_whole wires spec width x r =
    let e : length (number_bits width (pattern width x)) ≡ width = length-number_bits width (pattern width x) in
    all_of-some (source_value wires) (spec_bits spec) (number_bits width (pattern width x)) (r.wide ∙ sym e)
    (λ k h. let l : k < width = omega arith in r.at k l ∙ sym (slice_get-pattern width x k l))
