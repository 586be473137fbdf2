-- Loops that add one element more at each turn.
use Rattle.std.proofs.Common.{◌≡◌, ◌<◌, ◌≤◌, ◌+◌, ◌-◌, ◌/◌, ◌%◌, ◌==◌, ℕ, suc, List, [], ◌∷◌, ◌++◌, replicate, sym, ap, ◌∙◌, arith, append_assoc, append-nil}
use Rattle.std.specs.List.{list_any}
use Rattle.rtlil_text.specs.Cells.{number_bits}
use Rattle.rtlil_text.specs.declared.sig.SigPart.TheVariants as parts
use Rattle.memory_cells.specs.Plans.{through_from}
use Rattle.memory_cells.specs.Cells.{spread_spec}

-- a turn
pub one_more : {A : Type 0} (out out' all rest rest' : List A) (x : A) → rest ≡ x ∷ rest' → out' ≡ out ++ x ∷ [] → out ++ rest ≡ all → out' ++ rest' ≡ all
one_more out out' all rest rest' x first added whole = ap (λ o. o ++ rest') added ∙ append_assoc out (x ∷ []) rest' ∙ ap (λ r. out ++ r) (sym first) ∙ whole

-- a turn that adds some
pub some_more : {A : Type 0} (out out' all rest rest' xs : List A) → rest ≡ xs ++ rest' → out' ≡ out ++ xs → out ++ rest ≡ all → out' ++ rest' ≡ all
some_more out out' all rest rest' xs first added whole = ap (λ o. o ++ rest') added ∙ append_assoc out xs rest' ∙ ap (λ r. out ++ r) (sym first) ∙ whole

-- behind the last turn nothing is left
pub no_more : {A : Type 0} (out all rest : List A) → rest ≡ [] → out ++ rest ≡ all → out ≡ all
no_more out all rest none whole = sym (append-nil out) ∙ ap (λ r. out ++ r) (sym none) ∙ whole

left : (n i : ℕ) → i < n → n - i ≡ suc (n - (i + 1))
left n i h = omega (arith, h)

pub replicate_next : {A : Type 0} (n i : ℕ) (x : A) → i < n → replicate (n - i) x ≡ x ∷ replicate (n - (i + 1)) x
replicate_next n i x h = ap (λ k. replicate k x) (left n i h)

pub replicate_end : {A : Type 0} (n i : ℕ) (x : A) → n ≤ i → replicate (n - i) x ≡ []
replicate_end n i x h = let e : n - i ≡ 0 = omega (arith, h) in ap (λ k. replicate k x) e

pub number_next : (width i n : ℕ) → i < width → number_bits (width - i) n ≡ (n % 2 == 1) ∷ number_bits (width - (i + 1)) (n / 2)
number_next width i n h = ap (λ k. number_bits k n) (left width i h)

pub number_end : (width i n : ℕ) → width ≤ i → number_bits (width - i) n ≡ []
number_end width i n h = let e : width - i ≡ 0 = omega (arith, h) in ap (λ k. number_bits k n) e

pub through_next : (through : List ℕ) (n i : ℕ) → i < n → through_from through i (n - i) ≡ list_any (λ j. j == i) through ∷ through_from through (i + 1) (n - (i + 1))
through_next through n i h = ap (through_from through i) (left n i h)

pub through_end : (through : List ℕ) (n i : ℕ) → n ≤ i → through_from through i (n - i) ≡ []
through_end through n i h = let e : n - i ≡ 0 = omega (arith, h) in ap (through_from through i) e

pub spread_next : (id : List ℕ) (g n i : ℕ) → i < n → spread_spec id g (n - i) ≡ replicate g (parts.Wire id (n - 1 - i) 1) ++ spread_spec id g (n - (i + 1))
spread_next id g n i h = let place : n - (i + 1) ≡ n - 1 - i = omega (arith, h) in ap (spread_spec id g) (left n i h) ∙ ap (λ j. replicate g (parts.Wire id j 1) ++ spread_spec id g (n - (i + 1))) place

pub spread_end : (id : List ℕ) (g n i : ℕ) → n ≤ i → spread_spec id g (n - i) ≡ []
spread_end id g n i h = let e : n - i ≡ 0 = omega (arith, h) in ap (spread_spec id g) e
