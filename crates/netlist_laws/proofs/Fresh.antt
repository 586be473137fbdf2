-- Ids that differ, by their numbers.
use Rattle.std.specs.Prelude.{◌≡◌, ◌≢◌, ◌<◌, ◌≤◌, ◌^◌, ℕ, List, [], ◌∷◌, ◌++◌, map, IsPermutation}
use Rattle.std.specs.List.{AllByRecursion}
use Rattle.std.specs.Fmt.{decimal}
use Rattle.std.specs.Str.Parse.{digits_value}
use Rattle.std.proofs.Common.{sym, ap, ◌∙◌, arith, subst}
use Rattle.std.proofs.lemmas.Fmt.{decimal_is_IsNumeral_wide}
use Rattle.std.proofs.lemmas.List.{map-append}
use Rattle.std.proofs.lemmas.List.Sorted.{IsPermutation-trans, IsPermutation-append}
use Rattle.rtlil_text.proofs.Among.{AllByRecursion-append}
use Rattle.netlist_laws.specs.Ids.{inner_id}

-- ---- numbers that differ

abbrev pub Apart : List ℕ → Type 0
Apart [] = Unit {0}
Apart (n ∷ ns) = AllByRecursion (λ m. n ≢ m) ns × Apart ns

abbrev pub Within : (low high : ℕ) → List ℕ → Type 0
Within low high ns = AllByRecursion (λ n. (low ≤ n) × (n < high)) ns

pub AllByRecursion-weaker : {A : Type 0} (P Q : A → Type 0) → ((x : A) → P x → Q x) → (xs : List A) → AllByRecursion P xs → AllByRecursion Q xs
AllByRecursion-weaker P Q f [] h = tt
AllByRecursion-weaker P Q f (x ∷ xs) h = (f x h.0, AllByRecursion-weaker P Q f xs h.1)

pub Apart-append : (ns ms : List ℕ) → Apart ns → Apart ms → AllByRecursion (λ n. AllByRecursion (λ m. n ≢ m) ms) ns → Apart (ns ++ ms)
Apart-append [] ms h k across = k
Apart-append (n ∷ ns) ms h k across = (AllByRecursion-append (λ m. n ≢ m) ns ms h.0 across.0, Apart-append ns ms h.1 k across.1)

-- numbers below a bound, and numbers from it on
pub Apart-above : (low mid mid' high : ℕ) (ns ms : List ℕ) → mid ≤ mid' → Within low mid ns → Within mid' high ms → Apart ns → Apart ms → Apart (ns ++ ms)
Apart-above low mid mid' high ns ms le g h p q =
    Apart-append ns ms p q
    (AllByRecursion-weaker (λ n. (low ≤ n) × (n < mid)) (λ n. AllByRecursion (λ m. n ≢ m) ms)
    (λ n r. AllByRecursion-weaker (λ m. (mid' ≤ m) × (m < high)) (λ m. n ≢ m) (λ m s e. omega (arith, e, r.1, s.0)) ms h) ns g)

pub Within-wider : (low high low' high' : ℕ) (ns : List ℕ) → low' ≤ low → high ≤ high' → Within low high ns → Within low' high' ns
Within-wider low high low' high' ns p q h = AllByRecursion-weaker (λ n. (low ≤ n) × (n < high)) (λ n. (low' ≤ n) × (n < high')) (λ n r. (omega (arith, r.0), omega (arith, r.1))) ns h

-- numbers that keep their order under a function that takes no two to one
pub Apart-map : (f : ℕ → ℕ) (ns : List ℕ) → ((m n : ℕ) → f m ≡ f n → m ≡ n) → Apart ns → Apart (map f ns)
Apart-map f [] one h = tt
Apart-map f (n ∷ ns) one h = (others ns h.0, Apart-map f ns one h.1)
  where
    others : (ms : List ℕ) → AllByRecursion (λ m. n ≢ m) ms → AllByRecursion (λ m. f n ≢ m) (map f ms)
    others [] g = tt
    others (m ∷ ms) g = (λ e. g.0 (one n m e), others ms g.1)

-- ---- ids of one kind, with numbers in a range

pub record IsFresh (id : ℕ → List ℕ) (low high : ℕ) (ids : List (List ℕ)) : Type 0 where
  pub numbers : List ℕ
  pub same : IsPermutation ids (map id numbers)
  pub apart : Apart numbers
  pub within : Within low high numbers

pub IsFresh-permutation : (id : ℕ → List ℕ) (low high : ℕ) (ids others : List (List ℕ)) → IsPermutation others ids → IsFresh id low high ids → IsFresh id low high others
IsFresh-permutation id low high ids others p h = record { numbers = h.numbers; same = IsPermutation-trans others ids (map id h.numbers) p h.same; apart = h.apart; within = h.within }

pub IsFresh-append : (id : ℕ → List ℕ) (low mid mid' high : ℕ) (xs ys : List (List ℕ)) → low ≤ mid' → mid ≤ mid' → mid ≤ high → IsFresh id low mid xs → IsFresh id mid' high ys → IsFresh id low high (xs ++ ys)
IsFresh-append id low mid mid' high xs ys a b c g h = record {
  numbers = g.numbers ++ h.numbers;
  same = subst (IsPermutation (xs ++ ys)) (sym (map-append id g.numbers h.numbers)) (IsPermutation-append xs (map id g.numbers) ys (map id h.numbers) g.same h.same);
  apart = Apart-above low mid mid' high g.numbers h.numbers b g.within h.within g.apart h.apart;
  within = AllByRecursion-append (λ n. (low ≤ n) × (n < high)) g.numbers h.numbers (Within-wider low mid low high g.numbers (omega arith) c g.within) (Within-wider mid' high low high h.numbers a (omega arith) h.within);
}

pub IsFresh-wider : (id : ℕ → List ℕ) (low high high' : ℕ) (ids : List (List ℕ)) → high ≤ high' → IsFresh id low high ids → IsFresh id low high' ids
IsFresh-wider id low high high' ids le h = record { numbers = h.numbers; same = h.same; apart = h.apart; within = Within-wider low high low high' h.numbers (omega arith) le h.within }

-- ---- inner ids differ where their numbers do

pub inner_id-differ : (m n : ℕ) → m < 10 ^ 64 → n < 10 ^ 64 → m ≢ n → inner_id m ≢ inner_id n
inner_id-differ m n p q apart e =
    let digits : decimal m ≡ decimal n = cc in
    apart (sym (decimal_is_IsNumeral_wide m p).1 ∙ ap (digits_value 10) digits ∙ (decimal_is_IsNumeral_wide n q).1)
