-- Processes in order, each with its number, and the first clocked one of them that drives a signal.
use Rattle.std.proofs.Common.{◌≡◌, ℕ, zero, suc, ◌+◌, ◌<◌, ◌≤◌, nat_lt, Bool, true, false, ◌&&◌, ◌||◌, cond, List, [], ◌∷◌, ◌++◌, length, take, Option, Some, None, slice_get, refl, sym, ap, ◌∙◌, arith}
use Rattle.std.specs.Prelude.{option_map}
use Rattle.std.specs.List.{filter}
use Rattle.std.proofs.lemmas.Bool.Decides.{nat_tests}
use Rattle.std.proofs.lemmas.List.{take-append-le}
use Rattle.std.proofs.lemmas.List.Concat.{flat_map-append}
use Rattle.design_ir.specs.declared.process.Process.{Process}
use Rattle.design_ir.specs.Pools.{Pooled}
use Rattle.design_ir.specs.Guards.{driven}
use Rattle.design_ir.specs.Circuits.{is_among}
use Rattle.fragment_walks.specs.Marks.{marked}
use Rattle.fragment_walks.specs.Numbers.{lowered, is_below, bounded, process_targets}
use Rattle.fragment_walks.specs.Reads.{block_targets, is_driven}
use Rattle.fragment_walks.proofs.Lists.{take-push, take_end, or_false, take_length}
use Rattle.fragment_walks.proofs.Markings.{marked-append}
use Rattle.fragment_walks.proofs.NumberLaws.{lowered_below, lowered_past, or_true}
use Rattle.clock_domains.specs.Firsts.{first_clocked}
use Rattle.clock_domains.specs.Resolved.{is_clocked}

-- one process more, of those that are kept, where each has the number that is given for its place
pub numbered_turn : (up : ℕ → ℕ) → ((j i : ℕ) → nat_lt (up j) (up i) ≡ nat_lt j i) → (keep : List Process → List Process) (ps : List Process) (j : ℕ) (p : Process) (more : List Process) (old cur new : List (Option ℕ)) → slice_get ps j ≡ Some p
    → keep (take j ps ++ p ∷ []) ≡ keep (take j ps) ++ more → ((i : ℕ) → bounded (up i) cur ≡ marked (process_targets (keep (take i (take j ps)))) (bounded (up i) old)) → new ≡ lowered (process_targets more) (up j) cur → (i : ℕ)
    → bounded (up i) new ≡ marked (process_targets (keep (take i (take (j + 1) ps)))) (bounded (up i) old)
numbered_turn up order keep ps j p more old cur new at push h k i = ap (bounded (up i)) k ∙ split (nat_lt j i) refl
  where
    size : length (take j ps) ≡ j
    size = take_length ps j p at

    next : take (j + 1) ps ≡ take j ps ++ p ∷ []
    next = take-push ps j p at

    size' : length (take (j + 1) ps) ≡ j + 1
    size' = omega (arith, ap length next, grown (take j ps) p, size)
      where
        grown : (xs : List Process) (x : Process) → length (xs ++ x ∷ []) ≡ suc (length xs)
        grown [] x = refl
        grown (y ∷ xs) x = ap suc (grown xs x)

    below : nat_lt j i ≡ true → j < i
    below e = grind (arith, nat_tests)

    past : nat_lt j i ≡ false → i ≤ j
    past e = grind (arith, nat_tests)

    split : (b : Bool) → nat_lt j i ≡ b → bounded (up i) (lowered (process_targets more) (up j) cur) ≡ marked (process_targets (keep (take i (take (j + 1) ps)))) (bounded (up i) old)
    split true e =
        let low = below e in
        let all : take i (take j ps) ≡ take j ps = take_end (take j ps) i (omega (arith, low, size)) in
        let all' : take i (take (j + 1) ps) ≡ take j ps ++ p ∷ [] = take_end (take (j + 1) ps) i (omega (arith, low, size')) ∙ next in
        lowered_below (up i) (up j) (process_targets more) cur (order j i ∙ e)
        ∙ ap (marked (process_targets more)) (h i ∙ ap (λ qs. marked (process_targets (keep qs)) (bounded (up i) old)) all)
        ∙ sym (marked-append (process_targets (keep (take j ps))) (process_targets more) (bounded (up i) old))
        ∙ ap (λ ts. marked ts (bounded (up i) old))
        (sym (flat_map-append (λ (p : Process). block_targets p.body) (keep (take j ps)) more) ∙ ap process_targets (sym push) ∙ ap (λ qs. process_targets (keep qs)) (sym all'))
    split false e =
        let low = past e in
        lowered_past (up i) (up j) (process_targets more) cur (order j i ∙ e)
        ∙ h i
        ∙ ap (λ qs. marked (process_targets (keep qs)) (bounded (up i) old)) (sym (ap (take i) next ∙ take-append-le i (take j ps) (p ∷ []) (omega (arith, low, size))))

-- numbers from 1 on keep their order
pub next_order : (j i : ℕ) → nat_lt (j + 1) (i + 1) ≡ nat_lt j i
next_order j i = grind (arith, nat_tests)

-- what has the number 0 is below all of these
pub given_below : (i : ℕ) (given : Bool) (o : Option ℕ) → is_below (i + 1) (cond given (Some 0) o) ≡ (is_below (i + 1) o || given)
given_below i true o = one i ∙ sym (or_true (is_below (i + 1) o))
  where
    one : (i : ℕ) → nat_lt 0 (i + 1) ≡ true
    one i = grind (arith, nat_tests)
given_below i false o = sym (or_false (is_below (i + 1) o))

-- ---- the first clocked process

none_below : (o : Option ℕ) → is_below 0 o ≡ false
none_below None = refl
none_below (Some n) = none n
  where
    none : (n : ℕ) → nat_lt n 0 ≡ false
    none n = grind (arith, nat_tests)

below_suc : (i : ℕ) (o : Option ℕ) → is_below (suc i) (option_map (λ (k : ℕ). suc k) o) ≡ is_below i o
below_suc i None = refl
below_suc i (Some n) = next n i
  where
    next : (n i : ℕ) → nat_lt (suc n) (suc i) ≡ nat_lt n i
    next n i = grind (arith, nat_tests)

pub below_first : (q : Pooled) (ps : List Process) (s i : ℕ) → is_below i (first_clocked q ps s) ≡ is_driven q (filter is_clocked (take i ps)) s
below_first q [] s zero = refl
below_first q [] s (suc i) = refl
below_first q (p ∷ ps) s zero = none_below (first_clocked q (p ∷ ps) s)
below_first q (p ∷ ps) s (suc i) =
    let here = is_clocked p && is_among (driven q p.body) s in
    split here (option_map (λ (k : ℕ). suc k) (first_clocked q ps s)) ∙ ap (λ b. here || b) (below_suc i (first_clocked q ps s) ∙ below_first q ps s i) ∙ filtered (is_clocked p)
  where
    one : (i : ℕ) → nat_lt 0 (suc i) ≡ true
    one i = grind (arith, nat_tests)

    split : (c : Bool) (o : Option ℕ) → is_below (suc i) (cond c (Some 0) o) ≡ (c || is_below (suc i) o)
    split true o = one i
    split false o = refl

    filtered : (a : Bool) → ((a && is_among (driven q p.body) s) || is_driven q (filter is_clocked (take i ps)) s) ≡ is_driven q (cond a (p ∷ filter is_clocked (take i ps)) (filter is_clocked (take i ps))) s
    filtered true = refl
    filtered false = refl
