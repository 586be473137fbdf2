-- Which testbench is ready next, from one number to the next.
use Rattle.std.proofs.Common.{◌≡◌, refl, sym, ◌∙◌, ap, ℕ, zero, suc, ◌+◌, ◌≤◌, ◌<◌, arith, length, get_or, Some, None, true, false, List, [], ◌∷◌, map, drop}
use Rattle.std.specs.Prelude.{slice_get, if◌then◌else◌}
use Rattle.std.proofs.lemmas.List.{drop_all}
use Rattle.py_heap.proofs.ObjectLaws.{drop_at}
use Rattle.bench_run.specs.declared.testbench.Running.{Running}
use Rattle.bench_run.specs.declared.testbench.Stand.{Stand}
use Rattle.bench_run.specs.Runs.{is_ready, first_ready, next_ready}
use Rattle.bench_run.specs.Standing.{stands_in}

-- what is read in its bounds is there
pub get_there : {A : Type 0} (xs : List A) (i : ℕ) (x : A) → i < length xs → x ≡ get_or xs i x → slice_get xs i ≡ Some x
get_there [] i x h e = absurd (omega (arith, h))
get_there (y ∷ xs) zero x h e = ap Some (sym e)
get_there (y ∷ xs) (suc i) x h e = get_there xs i x (omega (arith, h)) e

stands_get : (ys : List Running) (i : ℕ) (y : Running) → slice_get ys i ≡ Some y → slice_get (stands_in ys) i ≡ Some y.stand
stands_get [] i y e = absurd ((cc))
stands_get (z ∷ ys) zero y e = ap (λ (w : Running). Some w.stand) (some_is z y e)
  where
    some_is : (a b : Running) → Some a ≡ Some b → a ≡ b
    some_is a b e = cc
stands_get (z ∷ ys) (suc i) y e = stands_get ys i y e

first : (i : ℕ) (s : Stand) (xs : List Stand) → first_ready i (s ∷ xs) ≡ (if is_ready s then Some i else first_ready (i + 1) xs)
first i s xs = ap (λ n. if is_ready s then Some i else first_ready n xs) (omega arith)

-- the next one is this one, or comes behind it
next_ready-split : (ys : List Running) (i : ℕ) (y : Running) → slice_get ys i ≡ Some y → next_ready i (stands_in ys) ≡ (if is_ready y.stand then Some i else next_ready (i + 1) (stands_in ys))
next_ready-split ys i y e = ap (first_ready i) (drop_at (stands_in ys) i y.stand (stands_get ys i y e)) ∙ first i y.stand (drop (i + 1) (stands_in ys))

-- one that is not ready is passed over
pub next_ready-passed : (ys : List Running) (i : ℕ) (y : Running) → slice_get ys i ≡ Some y → is_ready y.stand ≡ false → next_ready (i + 1) (stands_in ys) ≡ next_ready i (stands_in ys)
next_ready-passed ys i y e ready = sym (next_ready-split ys i y e ∙ ap (λ b. if b then Some i else next_ready (i + 1) (stands_in ys)) ready)

pub next_ready-here : (ys : List Running) (i : ℕ) (y : Running) → slice_get ys i ≡ Some y → is_ready y.stand ≡ true → next_ready i (stands_in ys) ≡ Some i
next_ready-here ys i y e ready = next_ready-split ys i y e ∙ ap (λ b. if b then Some i else next_ready (i + 1) (stands_in ys)) ready

-- behind the last one none is ready
pub next_ready-none : (ys : List Running) (i : ℕ) → length ys ≤ i → next_ready i (stands_in ys) ≡ None
next_ready-none ys i e = ap (first_ready i) (drop_all i (stands_in ys) (omega (arith, length_map (λ (y : Running). y.stand) ys, e)))
  where
    length_map : {A B : Type 0} (f : A → B) (xs : List A) → length (map f xs) ≡ length xs
    length_map f [] = refl
    length_map f (x ∷ xs) = ap suc (length_map f xs)
