-- How many additions are to a module.
use Rattle.std.proofs.Common.{◌≡◌, ◌+◌, ◌≤◌, ◌==◌, ℕ, zero, suc, Bool, true, false, if◌then◌else◌, List, [], ◌∷◌, length, take, Some, refl, sym, ◌∙◌, ap, is_some, true≢false, arith}
use Rattle.std.specs.Prelude.{slice_get}
use Rattle.elab_store.specs.declared.hierarchy.Addition.{Addition}
use Rattle.elab_store.specs.Hierarchies.{numbers_of}

pub few_numbers : (m k : ℕ) (xs : List Addition) → length (numbers_of m k xs) ≤ length xs
few_numbers m k [] = omega arith
few_numbers m k (x ∷ xs) = by_test (x.of == m) (few_numbers m (suc k) xs)
  where
    by_test : (b : Bool) → length (numbers_of m (suc k) xs) ≤ length xs → length (if b then k ∷ numbers_of m (suc k) xs else numbers_of m (suc k) xs) ≤ suc (length xs)
    by_test true h = omega arith
    by_test false h = omega arith

abbrev pub one_if : Bool → ℕ
one_if true = 1
one_if false = 0

-- one addition more
pub count_more : (m k : ℕ) (xs : List Addition) (i : ℕ) (a : Addition) → slice_get xs i ≡ Some a → length (numbers_of m k (take (suc i) xs)) ≡ length (numbers_of m k (take i xs)) + one_if (a.of == m)
count_more m k [] i a e = absurd (true≢false (ap is_some (sym e)))
count_more m k (x ∷ xs) zero a e = by_test (x.of == m) ∙ ap (λ (y : Addition). 0 + one_if (y.of == m)) same
  where
    same : x ≡ a
    same = cc

    by_test : (b : Bool) → length (if b then k ∷ [] else []) ≡ 0 + one_if b
    by_test true = refl
    by_test false = refl
count_more m k (x ∷ xs) (suc i) a e = by_test (x.of == m) (count_more m (suc k) xs i a e)
  where
    by_test : (b : Bool) → length (numbers_of m (suc k) (take (suc i) xs)) ≡ length (numbers_of m (suc k) (take i xs)) + one_if (a.of == m)
        → length (if b then k ∷ numbers_of m (suc k) (take (suc i) xs) else numbers_of m (suc k) (take (suc i) xs)) ≡ length (if b then k ∷ numbers_of m (suc k) (take i xs) else numbers_of m (suc k) (take i xs)) + one_if (a.of == m)
    by_test true h = omega (arith, h)
    by_test false h = h
