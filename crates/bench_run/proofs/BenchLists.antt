-- Testbenches of the code beside those of a point, and which of them is ready next.
use Rattle.std.proofs.Common.{◌≡◌, refl, sym, ◌∙◌, ap, subst, Some, ℕ, zero, suc, ◌+◌, Bool, true, false, List, [], ◌∷◌, map, drop, arith}
use Rattle.std.specs.Prelude.{◌&&◌, slice_get, slice_set, if◌then◌else◌, ℤ}
use Rattle.std.specs.List.{list_all}
use Rattle.design_ir.specs.declared.ids.DomainId.{DomainId}
use Rattle.design_ir.specs.Circuits.{Circuit}
use Rattle.elab_store.specs.declared.simulation.RunEnd.{RunEnd}
use Rattle.elab_store.specs.declared.simulation.RunEnd.TheVariants.{WithTestbenches, Until}
use Rattle.elab_store.specs.Stores.{Held}
use Rattle.bench_run.specs.declared.testbench.Running.{Running}
use Rattle.bench_run.specs.declared.testbench.Stand.{Stand}
use Rattle.bench_run.specs.Runs.{Testbench, Run, is_ready, first_ready, next_ready, stands_of, woken, woken_at, ticked, stand_ticked, may_end, is_over}
use Rattle.bench_run.specs.Standing.{stands_in, woken_in, ticked_in, all_over, IsBenchOf, AreBenches}

-- ---- side by side

pub record BenchAt (x : Run) (y : Running) (bs : List Testbench) (i : ℕ) : Type 0 where
  pub bench : Testbench
  pub there : slice_get bs i ≡ Some bench
  pub is : IsBenchOf x y bench

some_is : {A : Type 0} (a b : A) → Some a ≡ Some b → a ≡ b
some_is a b e = cc

pub bench_at : (x : Run) (ys : List Running) (bs : List Testbench) (i : ℕ) (y : Running) → AreBenches x ys bs → slice_get ys i ≡ Some y → BenchAt x y bs i
bench_at x [] [] i y are is = absurd ((cc))
bench_at x [] (b ∷ bs) i y are is = absurd are
bench_at x (z ∷ ys) [] i y are is = absurd are
bench_at x (z ∷ ys) (b ∷ bs) zero y are is = record { bench = b; there = refl; is = subst (λ w. IsBenchOf x w b) (some_is z y is) are.0 }
bench_at x (z ∷ ys) (b ∷ bs) (suc i) y are is = let r = bench_at x ys bs i y are.1 is in record { bench = r.bench; there = r.there; is = r.is }

pub benches_set : (x : Run) (ys : List Running) (bs : List Testbench) (i : ℕ) (y : Running) (b : Testbench) → AreBenches x ys bs → IsBenchOf x y b → AreBenches x (slice_set ys i y) (slice_set bs i b)
benches_set x [] [] i y b are is = tt
benches_set x [] (c ∷ bs) i y b are is = absurd are
benches_set x (z ∷ ys) [] i y b are is = absurd are
benches_set x (z ∷ ys) (c ∷ bs) zero y b are is = (is, are.1)
benches_set x (z ∷ ys) (c ∷ bs) (suc i) y b are is = (are.0, benches_set x ys bs i y b are.1 is)

pub stands_same : (x : Run) (ys : List Running) (bs : List Testbench) → AreBenches x ys bs → stands_in ys ≡ stands_of bs
stands_same x [] [] are = refl
stands_same x [] (b ∷ bs) are = absurd are
stands_same x (y ∷ ys) [] are = absurd are
stands_same x (y ∷ ys) (b ∷ bs) are = ap (λ s. s ∷ stands_in ys) (are.0).stand ∙ ap (λ ss. b.stand ∷ ss) (stands_same x ys bs are.1)

all_over_each : (x : Run) (ys : List Running) (bs : List Testbench) → AreBenches x ys bs
    → list_all (λ (y : Running). is_over y.background y.stand) ys ≡ list_all (λ (b : Testbench). is_over b.background b.stand) bs
all_over_each x [] [] are = refl
all_over_each x [] (b ∷ bs) are = absurd are
all_over_each x (y ∷ ys) [] are = absurd are
all_over_each x (y ∷ ys) (b ∷ bs) are =
    ap (λ k. is_over k y.stand && list_all (λ (y : Running). is_over y.background y.stand) ys) (are.0).background
    ∙ ap (λ s. is_over b.background s && list_all (λ (y : Running). is_over y.background y.stand) ys) (are.0).stand
    ∙ ap (λ k. is_over b.background b.stand && k) (all_over_each x ys bs are.1)

pub over_same : (x : Run) (how : RunEnd) (ys : List Running) (bs : List Testbench) → AreBenches x ys bs → all_over how ys ≡ may_end how bs
over_same x WithTestbenches ys bs are = all_over_each x ys bs are
over_same x (Until t) ys bs are = refl

-- where it stands changes on both sides
pub with_stand : (x : Run) (y : Running) (b : Testbench) (s : Stand) → IsBenchOf x y b → IsBenchOf x (record y { stand = s }) (record b { stand = s })
with_stand x y b s is = record { stands = is.stands; used = is.used; background = is.background; stand = refl }

pub benches_woken : (x : Run) (t : ℕ) (ys : List Running) (bs : List Testbench) → AreBenches x ys bs → AreBenches x (map (woken_in t) ys) (map (woken_at t) bs)
benches_woken x t [] [] are = tt
benches_woken x t [] (b ∷ bs) are = absurd are
benches_woken x t (y ∷ ys) [] are = absurd are
benches_woken x t (y ∷ ys) (b ∷ bs) are =
    (record { stands = (are.0).stands; used = (are.0).used; background = (are.0).background; stand = ap (woken t) (are.0).stand }, benches_woken x t ys bs are.1)

pub benches_ticked : (x : Run) (c : Circuit) (h : Held) (env : List ℤ) (toggled : List DomainId) (ys : List Running) (bs : List Testbench) → AreBenches x ys bs
    → AreBenches x (map (ticked_in c h env toggled) ys) (map (ticked c h env toggled) bs)
benches_ticked x c h env toggled [] [] are = tt
benches_ticked x c h env toggled [] (b ∷ bs) are = absurd are
benches_ticked x c h env toggled (y ∷ ys) [] are = absurd are
benches_ticked x c h env toggled (y ∷ ys) (b ∷ bs) are =
    (record { stands = (are.0).stands; used = (are.0).used; background = (are.0).background; stand = ap (stand_ticked c h env toggled) (are.0).stand }, benches_ticked x c h env toggled ys bs are.1)

-- ---- which one is ready

pub record ReadyAt (xs : List Stand) (i : ℕ) : Type 0 where
  pub found : Stand
  pub there : slice_get xs i ≡ Some found
  pub ready : is_ready found ≡ true

-- the first one that is ready stands at its number behind those before it
first_at : (n : ℕ) (xs : List Stand) (i : ℕ) → first_ready n xs ≡ Some i → (k : ℕ) × (i ≡ n + k) × ReadyAt xs k
first_at n [] i is = absurd ((cc))
first_at n (x ∷ xs) i is = by_test (is_ready x) refl (first_at (suc n) xs i)
  where
    by_test : (b : Bool) → is_ready x ≡ b → (first_ready (suc n) xs ≡ Some i → (k : ℕ) × (i ≡ suc n + k) × ReadyAt xs k) → (k : ℕ) × (i ≡ n + k) × ReadyAt (x ∷ xs) k
    by_test true e behind =
        let same = some_is n i (sym (ap (λ b. if b then Some n else first_ready (suc n) xs) e) ∙ is) in
        (0, omega (arith, same), record { found = x; there = refl; ready = e })
    by_test false e behind =
        let r = behind (sym (ap (λ b. if b then Some n else first_ready (suc n) xs) e) ∙ is) in
        (suc r.0, omega (arith, r.1), record { found = r.2.found; there = r.2.there; ready = r.2.ready })

get_behind : {A : Type 0} (n : ℕ) (xs : List A) (k : ℕ) → slice_get (drop n xs) k ≡ slice_get xs (n + k)
get_behind zero xs k = let e : k ≡ 0 + k = omega arith in ap (slice_get xs) e
get_behind (suc n) [] k = refl
get_behind (suc n) (x ∷ xs) k = let e : suc (n + k) ≡ suc n + k = omega arith in get_behind n xs k ∙ ap (slice_get (x ∷ xs)) e

pub ready_at : (n : ℕ) (xs : List Stand) (i : ℕ) → next_ready n xs ≡ Some i → ReadyAt xs i
ready_at n xs i is =
    let r = first_at n (drop n xs) i is in
    record { found = r.2.found; there = ap (slice_get xs) r.1 ∙ sym (get_behind n xs r.0) ∙ r.2.there; ready = r.2.ready }

-- one that is ready is the next one from its number on
pub ready_here : (xs : List Stand) (i : ℕ) (s : Stand) → slice_get xs i ≡ Some s → is_ready s ≡ true → next_ready i xs ≡ Some i
ready_here xs i s is ready = here i i xs is
  where
    here : (n k : ℕ) (ss : List Stand) → slice_get ss k ≡ Some s → first_ready n (drop k ss) ≡ Some n
    here n k [] e = absurd ((cc))
    here n zero (y ∷ ss) e = ap (λ w. if is_ready w then Some n else first_ready (suc n) ss) (some_is y s e) ∙ ap (λ b. if b then Some n else first_ready (suc n) ss) ready
    here n (suc k) (y ∷ ss) e = here n k ss e

pub set_there : {A : Type 0} (xs : List A) (i : ℕ) (y x : A) → slice_get xs i ≡ Some y → slice_get (slice_set xs i x) i ≡ Some x
set_there [] i y x e = absurd ((cc))
set_there (z ∷ xs) zero y x e = refl
set_there (z ∷ xs) (suc i) y x e = set_there xs i y x e

pub set_twice : {A : Type 0} (xs : List A) (i : ℕ) (y x : A) → slice_set (slice_set xs i y) i x ≡ slice_set xs i x
set_twice [] i y x = refl
set_twice (z ∷ xs) zero y x = refl
set_twice (z ∷ xs) (suc i) y x = ap (λ ws. z ∷ ws) (set_twice xs i y x)

pub stands_set : (bs : List Testbench) (i : ℕ) (b : Testbench) → stands_of (slice_set bs i b) ≡ slice_set (stands_of bs) i b.stand
stands_set [] i b = refl
stands_set (c ∷ bs) zero b = refl
stands_set (c ∷ bs) (suc i) b = ap (λ ss. c.stand ∷ ss) (stands_set bs i b)

pub stand_there : (bs : List Testbench) (i : ℕ) (b : Testbench) → slice_get bs i ≡ Some b → slice_get (stands_of bs) i ≡ Some b.stand
stand_there [] i b e = absurd ((cc))
stand_there (c ∷ bs) zero b e = ap (λ (x : Testbench). Some x.stand) (some_is c b e)
stand_there (c ∷ bs) (suc i) b e = stand_there bs i b e
