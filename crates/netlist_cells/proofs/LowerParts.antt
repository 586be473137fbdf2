-- Parts of specs, by whether there are bits.
use Rattle.std.proofs.Common.{◌≡◌, ◌<◌, ◌≤◌, ◌≢◌, ◌+◌, ◌-◌, ◌/◌, ◌%◌, ◌==◌, ℕ, zero, suc, Bool, List, [], ◌∷◌, ◌++◌, length, replicate, refl, sym, ap, ◌∙◌, arith, append_assoc, append-nil}
use Rattle.rtlil_text.specs.Cells.{number_bits}
use Rattle.rtlil_text.specs.declared.sig.SigPart.TheVariants as parts
use Rattle.netlist_laws.specs.Operands.{wire_part, const_part}

pub const_part_some : (bits : List Bool) → 0 < length bits → const_part bits ≡ parts.Const bits ∷ []
const_part_some [] h = absurd (omega arith)
const_part_some (b ∷ bs) h = refl

pub const_part_none : (bits : List Bool) → length bits ≡ 0 → const_part bits ≡ []
const_part_none [] h = refl
const_part_none (b ∷ bs) h = absurd (omega arith)

pub wire_part_some : (id : List ℕ) (low width : ℕ) → width ≢ 0 → wire_part id low width ≡ parts.Wire id low width ∷ []
wire_part_some id low zero h = absurd (h refl)
wire_part_some id low (suc n) h = refl

pub wire_part_none : (id : List ℕ) (low width : ℕ) → width ≡ 0 → wire_part id low width ≡ []
wire_part_none id low zero h = refl
wire_part_none id low (suc n) h = absurd (omega arith)

-- ---- a turn of a loop that adds one element more

pub one_more : {A : Type 0} (out out' all rest rest' : List A) (x : A) → rest ≡ x ∷ rest' → out' ≡ out ++ x ∷ [] → out ++ rest ≡ all → out' ++ rest' ≡ all
one_more out out' all rest rest' x first added whole = ap (λ o. o ++ rest') added ∙ append_assoc out (x ∷ []) rest' ∙ ap (λ r. out ++ r) (sym first) ∙ whole

-- behind the last turn nothing is left
pub no_more : {A : Type 0} (out all rest : List A) → rest ≡ [] → out ++ rest ≡ all → out ≡ all
no_more out all rest none whole = sym (append-nil out) ∙ ap (λ r. out ++ r) (sym none) ∙ whole

pub number_bits_next : (width i n : ℕ) → i < width → number_bits (width - i) n ≡ (n % 2 == 1) ∷ number_bits (width - (i + 1)) (n / 2)
number_bits_next width i n h = let e : width - i ≡ suc (width - (i + 1)) = omega arith in ap (λ k. number_bits k n) e

pub number_bits_end : (width i n : ℕ) → width ≤ i → number_bits (width - i) n ≡ []
number_bits_end width i n h = let e : width - i ≡ 0 = omega arith in ap (λ k. number_bits k n) e

pub replicate_next : {A : Type 0} (n i : ℕ) (x : A) → i < n → replicate (n - i) x ≡ x ∷ replicate (n - (i + 1)) x
replicate_next n i x h = let e : n - i ≡ suc (n - (i + 1)) = omega arith in ap (λ k. replicate k x) e

pub replicate_end : {A : Type 0} (n i : ℕ) (x : A) → n ≤ i → replicate (n - i) x ≡ []
replicate_end n i x h = let e : n - i ≡ 0 = omega arith in ap (λ k. replicate k x) e
