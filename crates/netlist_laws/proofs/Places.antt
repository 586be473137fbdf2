-- The bits that specs name, by their places: parts of wires, constants, and one spec above another.
use Rattle.std.proofs.Common.{◌≡◌, ℕ, zero, suc, ◌+◌, ◌<◌, Bool, List, [], ◌∷◌, ◌++◌, map, length, refl, sym, ◌∙◌, ap, arith, length-append, append_assoc, append-nil}
use Rattle.std.specs.Prelude.{Some, slice_get, option_map}
use Rattle.std.proofs.lemmas.List.{length-map}
use Rattle.std.specs.List.{range_with_len}
use Rattle.std.proofs.lemmas.Option.{slice_get-map, slice_get-get_or}
use Rattle.std.proofs.lemmas.List.FromFn.{length-range_with_len, get_or-range_with_len}
use Rattle.rtlil_text.specs.declared.sig.SigPart.{SigPart}
use Rattle.rtlil_text.specs.Sources.{Constant, Net, part_bits, spec_bits}
use Rattle.netlist_laws.specs.Operands.{wire_part, const_part}

pub slice_get-append_left : {A : Type 0} (xs ys : List A) (k : ℕ) → k < length xs → slice_get (xs ++ ys) k ≡ slice_get xs k
slice_get-append_left [] ys k h = absurd (omega arith)
slice_get-append_left (x ∷ xs) ys zero h = refl
slice_get-append_left (x ∷ xs) ys (suc k) h = slice_get-append_left xs ys k (omega arith)

pub slice_get-append_right : {A : Type 0} (xs ys : List A) (k : ℕ) → slice_get (xs ++ ys) (length xs + k) ≡ slice_get ys k
slice_get-append_right [] ys k = ap (slice_get ys) (omega arith)
slice_get-append_right (x ∷ xs) ys k =
    ap (slice_get (x ∷ (xs ++ ys))) (let e : suc (length xs) + k ≡ suc (length xs + k) = omega arith in e) ∙ slice_get-append_right xs ys k

slice_get-range_with_len : (a n k : ℕ) → k < n → slice_get (range_with_len a n) k ≡ Some (a + k)
slice_get-range_with_len a n k h =
    slice_get-get_or (range_with_len a n) k 0 (rw (length-range_with_len a n) h) ∙ ap Some (get_or-range_with_len a n k 0 h)

-- ---- parts of wires

pub spec_bits-wire_part : (id : List ℕ) (low width : ℕ) → spec_bits (wire_part id low width) ≡ map (λ i. Net id i) (range_with_len low width)
spec_bits-wire_part id low zero = refl
spec_bits-wire_part id low (suc n) = refl

pub length-wire_part : (id : List ℕ) (low width : ℕ) → length (spec_bits (wire_part id low width)) ≡ width
length-wire_part id low width =
    ap length (spec_bits-wire_part id low width) ∙ length-map (range_with_len low width) (λ i. Net id i) ∙ length-range_with_len low width

pub slice_get-wire_part : (id : List ℕ) (low width k : ℕ) → k < width → slice_get (spec_bits (wire_part id low width)) k ≡ Some (Net id (low + k))
slice_get-wire_part id low width k h =
    ap (λ s. slice_get s k) (spec_bits-wire_part id low width)
    ∙ slice_get-map (λ i. Net id i) (range_with_len low width) k
    ∙ ap (option_map (λ i. Net id i)) (slice_get-range_with_len low width k h)

-- ---- constants

pub spec_bits-const_part : (bits : List Bool) → spec_bits (const_part bits) ≡ map Constant bits
spec_bits-const_part [] = refl
spec_bits-const_part (b ∷ bs) = refl

pub length-const_part : (bits : List Bool) → length (spec_bits (const_part bits)) ≡ length bits
length-const_part bits = ap length (spec_bits-const_part bits) ∙ length-map bits Constant

pub slice_get-const_part : (bits : List Bool) (k : ℕ) → slice_get (spec_bits (const_part bits)) k ≡ option_map Constant (slice_get bits k)
slice_get-const_part bits k = ap (λ s. slice_get s k) (spec_bits-const_part bits) ∙ slice_get-map Constant bits k

-- ---- one spec above another

pub spec_bits-append : (high low : List SigPart) → spec_bits (high ++ low) ≡ spec_bits low ++ spec_bits high
spec_bits-append [] low = sym (append-nil (spec_bits low))
spec_bits-append (p ∷ high) low =
    ap (λ s. s ++ part_bits p) (spec_bits-append high low) ∙ append_assoc (spec_bits low) (spec_bits high) (part_bits p)

pub length-spec_append : (high low : List SigPart) → length (spec_bits (high ++ low)) ≡ length (spec_bits low) + length (spec_bits high)
length-spec_append high low = ap length (spec_bits-append high low) ∙ length-append (spec_bits low) (spec_bits high)
