-- The tasks of a delta, one after another.
use Rattle.std.specs.Prelude.{◌≡◌, ◌≢◌, refl, ℕ, zero, suc, ◌+◌, ◌<◌, ◌≤◌, ◌⊎◌, ◌==◌, ◌||◌, Bool, true, false, List, [], ◌∷◌, take, length, slice_index_or, ℤ}
use Rattle.std.specs.List.{AllByRecursion}
use Rattle.std.proofs.Common.{sym, ◌∙◌, ap, arith, subst, inl, inr, ⊎_elim, get_or, add-one}
use Rattle.std.proofs.lemmas.Bool.{cases_Bool, eq-eqb, eqb-true, false≢true}
use Rattle.design_ir.specs.Circuits.{Circuit, State, at, is_among}
use Rattle.design_ir.specs.Designs.{IsDesign}
use Rattle.design_ir.specs.Settled.{delta}
use Rattle.comb_graph.specs.Orders.{is_comb}
use Rattle.sim_plans.specs.declared.plan.Plan.{Plan}
use Rattle.sim_plans.specs.Plans.{IsPlan, IsUntouched, Rests, outs_at, taken}
use Rattle.sim_plans.specs.Waiting.{Waiting, IsWaiting}
use Rattle.sim_plans.proofs.Jobs.{driven_by, out_comb, outs_apart}
use Rattle.sim_plans.proofs.Settling.{same_lists}
use Rattle.sim_plans.proofs.Taking.{taken_at, taken_other}

-- ---- what is among the first

pub among_next : (list : List ℕ) (i j : ℕ) → is_among (take (i + 1) list) j ≡ true → get_or list i 0 ≢ j → is_among (take i list) j ≡ true
among_next list i j h other = next list i (ap (λ n. is_among (take n list) j) (sym (add-one i)) ∙ h) other
  where
    next : (list : List ℕ) (i : ℕ) → is_among (take (suc i) list) j ≡ true → get_or list i 0 ≢ j → is_among (take i list) j ≡ true
    next [] i h other = absurd (false≢true h)
    next (x ∷ list) zero h other =
        ⊎_elim (λ (t : (x == j) ≡ true). absurd (other (eqb-true x j t))) (λ (t : (x == j) ≡ false). absurd (false≢true (sym (ap (λ b. b || false) t) ∙ h))) (cases_Bool (x == j))
    next (x ∷ list) (suc i) h other =
        ⊎_elim (λ (t : (x == j) ≡ true). ap (λ b. b || is_among (take i list) j) t) (λ (t : (x == j) ≡ false). ap (λ b. b || is_among (take i list) j) t ∙ next list i (sym (ap (λ b. b || is_among (take (suc i) list) j) t) ∙ h) other) (cases_Bool (x == j))

pub among_more : (list : List ℕ) (i j : ℕ) → is_among (take i list) j ≡ true → is_among (take (i + 1) list) j ≡ true
among_more list i j h = ap (λ n. is_among (take n list) j) (add-one i) ∙ more list i h
  where
    more : (list : List ℕ) (i : ℕ) → is_among (take i list) j ≡ true → is_among (take (suc i) list) j ≡ true
    more [] zero h = absurd (false≢true h)
    more [] (suc i) h = absurd (false≢true h)
    more (x ∷ list) zero h = absurd (false≢true h)
    more (x ∷ list) (suc i) h =
        ⊎_elim (λ (t : (x == j) ≡ true). ap (λ b. b || is_among (take (suc i) list) j) t) (λ (t : (x == j) ≡ false). ap (λ b. b || is_among (take (suc i) list) j) t ∙ more list i (sym (ap (λ b. b || is_among (take i list) j) t) ∙ h)) (cases_Bool (x == j))

pub among_here : (list : List ℕ) (i : ℕ) → i < length list → is_among (take (i + 1) list) (get_or list i 0) ≡ true
among_here list i h = ap (λ n. is_among (take n list) (get_or list i 0)) (add-one i) ∙ here list i h
  where
    here : (list : List ℕ) (i : ℕ) → i < length list → is_among (take (suc i) list) (get_or list i 0) ≡ true
    here [] i h = absurd (omega (arith, h))
    here (x ∷ list) zero h = ap (λ b. b || false) (eq-eqb x x refl)
    here (x ∷ list) (suc i) h =
        ⊎_elim (λ (t : (x == get_or list i 0) ≡ true). ap (λ b. b || is_among (take (suc i) list) (get_or list i 0)) t)
        (λ (t : (x == get_or list i 0) ≡ false). ap (λ b. b || is_among (take (suc i) list) (get_or list i 0)) t ∙ here list i (omega (arith, h))) (cases_Bool (x == get_or list i 0))

pub among_none : (list : List ℕ) (j : ℕ) → is_among (take 0 list) j ≡ true → ⊥
among_none [] j h = false≢true h
among_none (x ∷ list) j h = false≢true h

-- what waits is among all that wait
pub among_all : (w : Waiting) → IsWaiting w → (i j : ℕ) → length w.list ≤ i → slice_index_or w.marks j false ≡ true → is_among (take i w.list) j ≡ true
among_all w h i j past marked = ap (λ xs. is_among xs j) (all w.list i past) ∙ sym (h.listed j) ∙ marked
  where
    all : (xs : List ℕ) (i : ℕ) → length xs ≤ i → take i xs ≡ xs
    all [] zero l = refl
    all [] (suc i) l = refl
    all (x ∷ xs) zero l = absurd (omega (arith, l))
    all (x ∷ xs) (suc i) l = ap (λ ys. x ∷ ys) (all xs i (omega (arith, l)))

pub among_waits : (w : Waiting) → IsWaiting w → (i j : ℕ) → length w.list ≤ i → is_among (take i w.list) j ≡ true → slice_index_or w.marks j false ≡ true
among_waits w h i j past among = h.listed j ∙ sym (ap (λ xs. is_among xs j) (all w.list i past)) ∙ among
  where
    all : (xs : List ℕ) (i : ℕ) → length xs ≤ i → take i xs ≡ xs
    all [] zero l = refl
    all [] (suc i) l = refl
    all (x ∷ xs) zero l = absurd (omega (arith, l))
    all (x ∷ xs) (suc i) l = ap (λ ys. x ∷ ys) (all xs i (omega (arith, l)))

pub below_of : (n : ℕ) (xs : List ℕ) (s : ℕ) → AllByRecursion (λ k. k < n) xs → is_among xs s ≡ true → s < n
below_of n [] s h e = absurd (false≢true e)
below_of n (x ∷ xs) s h e =
    ⊎_elim (λ (t : (x == s) ≡ true). subst (λ k. k < n) (eqb-true x s t) h.0) (λ (t : (x == s) ≡ false). below_of n xs s h.1 (sym (ap (λ b. b || is_among xs s) t) ∙ e)) (cases_Bool (x == s))

module _ (c : Circuit) (rows : List (List ℤ)) (plan : Plan) where
  -- ---- runs

  -- the signals of the first tasks have what a delta leaves in them
  abbrev pub HaveRun : List ℤ → List ℕ → List ℤ → Type 0
  HaveRun env js next = (st : State) (j s : ℕ) → st.rows ≡ rows → is_among js j ≡ true → is_among (outs_at plan j) s ≡ true → at next s ≡ at (delta c st env) s

  pub run_turn : (list : List ℕ) (i : ℕ) (env cur next : List ℤ) → ((st : State) (s : ℕ) → st.rows ≡ rows → is_among (outs_at plan (get_or list i 0)) s ≡ true → at next s ≡ at (delta c st env) s)
      → ((s : ℕ) → is_among (outs_at plan (get_or list i 0)) s ≡ false → at next s ≡ at cur s) → HaveRun env (take i list) cur → HaveRun env (take (i + 1) list) next
  run_turn list i env cur next gives keeps was st j s of among out =
      let x : ℕ = get_or list i 0 in
      ⊎_elim
      (λ (own : is_among (outs_at plan x) s ≡ true). gives st s of own)
      (λ (none : is_among (outs_at plan x) s ≡ false).
      let other : x ≢ j = λ e. false≢true (sym none ∙ ap (λ k. is_among (outs_at plan k) s) e ∙ out) in
      keeps s none ∙ was st j s of (among_next list i j among other) out)
      (cases_Bool (is_among (outs_at plan x) s))

module _ (c : Circuit) (design : IsDesign c) (count : ℕ) (plan : Plan) (is : IsPlan c count plan) where
  -- ---- the environment behind a delta

  abbrev IsTouched : List Bool → ℕ → Type 0
  IsTouched marks s = (j : ℕ) × (slice_index_or marks j false ≡ true) × (is_among (outs_at plan j) s ≡ true)

  -- a signal is one of a task that waits, or of none that does
  touched : (marks : List Bool) (s : ℕ) → IsUntouched plan marks s ⊎ IsTouched marks s
  touched marks s =
      ⊎_elim
      (λ (comb : is_comb c s ≡ true).
      let v = driven_by c design count plan is s comb in
      ⊎_elim
      (λ (w : slice_index_or marks v.j false ≡ true). inr (v.j, w, v.drives))
      (λ (w : slice_index_or marks v.j false ≡ false). inl (λ j waits. outs_apart c design count plan is v.j j s (λ f. false≢true (sym w ∙ ap (λ k. slice_index_or marks k false) f ∙ waits)) v.drives))
      (cases_Bool (slice_index_or marks v.j false)))
      (λ (comb : is_comb c s ≡ false). inl (λ j waits.
      ⊎_elim
      (λ (out : is_among (outs_at plan j) s ≡ true). absurd (false≢true (sym comb ∙ out_comb c design count plan is j s out)))
      (λ (out : is_among (outs_at plan j) s ≡ false). out)
      (cases_Bool (is_among (outs_at plan j) s))))
      (cases_Bool (is_comb c s))

  pub delta_is : (st : State) (marks : List Bool) (env next after : List ℤ) → length env ≡ length c.pool.signals → length after ≡ length env → length (delta c st env) ≡ length c.pool.signals → Rests c st plan marks env
      → ((j s : ℕ) → slice_index_or marks j false ≡ true → is_among (outs_at plan j) s ≡ true → at next s ≡ at (delta c st env) s)
      → ((s : ℕ) → IsUntouched plan marks s → at after s ≡ at env s)
      → ((j s : ℕ) → slice_index_or marks j false ≡ true → is_among (outs_at plan j) s ≡ true → at after s ≡ at next s)
      → after ≡ delta c st env
  delta_is st marks env next after long same long' rests ran kept taken =
      same_lists after (delta c st env) (same ∙ long ∙ sym long') (λ s h.
      ⊎_elim
      (λ (u : IsUntouched plan marks s). kept s u ∙ sym (rests s u))
      (λ (x : IsTouched marks s). taken x.0 s x.1 x.2 ∙ ran x.0 s x.1 x.2)
      (touched marks s))

-- ---- numbers that are taken, one task after another

module _ (plan : Plan) where
  abbrev Free : List ℕ → ℕ → Type 0
  Free js s = (j : ℕ) → is_among js j ≡ true → is_among (outs_at plan j) s ≡ false

  pub kept_turn : (list : List ℕ) (i : ℕ) (from first env new : List ℤ) → i < length list → new ≡ taken from (outs_at plan (get_or list i 0)) env → ((s : ℕ) → Free (take i list) s → at env s ≡ at first s) → (s : ℕ) → Free (take (i + 1) list) s → at new s ≡ at first s
  kept_turn list i from first env new h e was s free =
      ap (λ xs. at xs s) e ∙ taken_other from (outs_at plan (get_or list i 0)) env s (free (get_or list i 0) (among_here list i h)) ∙ was s (λ j among. free j (among_more list i j among))

  pub taken_turn : (list : List ℕ) (i : ℕ) (from env new : List ℤ) → new ≡ taken from (outs_at plan (get_or list i 0)) env → AllByRecursion (λ s. s < length env) (outs_at plan (get_or list i 0))
      → ((j s : ℕ) → is_among (take i list) j ≡ true → is_among (outs_at plan j) s ≡ true → at env s ≡ at from s)
      → (j s : ℕ) → is_among (take (i + 1) list) j ≡ true → is_among (outs_at plan j) s ≡ true → at new s ≡ at from s
  taken_turn list i from env new e below was j s among out =
      let x : ℕ = get_or list i 0 in
      ⊎_elim
      (λ (out' : is_among (outs_at plan x) s ≡ true). ap (λ xs. at xs s) e ∙ taken_at from (outs_at plan x) env s out' (below_of (length env) (outs_at plan x) s below out'))
      (λ (none : is_among (outs_at plan x) s ≡ false).
      let other : x ≢ j = λ f. false≢true (sym none ∙ ap (λ k. is_among (outs_at plan k) s) f ∙ out) in
      ap (λ xs. at xs s) e ∙ taken_other from (outs_at plan x) env s none ∙ was j s (among_next list i j among other) out)
      (cases_Bool (is_among (outs_at plan x) s))

-- between two of these environments each signal changes once
pub once_taken : (first env new from : List ℤ) (ss : List ℕ) → AllByRecursion (λ s. s < length env) ss → new ≡ taken from ss env → ((t : ℕ) → (at first t ≡ at env t) ⊎ (at env t ≡ at from t)) → ((t : ℕ) → (at first t ≡ at new t) ⊎ (at new t ≡ at from t)) × ((t : ℕ) → (at first t ≡ at env t) ⊎ (at env t ≡ at new t))
once_taken first env new from ss below e once = (
  λ t. ⊎_elim
      (λ (h : is_among ss t ≡ true). inr (ap (λ xs. at xs t) e ∙ taken_at from ss env t h (below_of (length env) ss t below h)))
      (λ (h : is_among ss t ≡ false).
      let kept : at new t ≡ at env t = ap (λ xs. at xs t) e ∙ taken_other from ss env t h in
      ⊎_elim (λ (f : at first t ≡ at env t). inl (f ∙ sym kept)) (λ (f : at env t ≡ at from t). inr (kept ∙ f)) (once t))
      (cases_Bool (is_among ss t)),
  λ t. ⊎_elim (λ (f : at first t ≡ at env t). inl f)
      (λ (f : at env t ≡ at from t).
      ⊎_elim
      (λ (h : is_among ss t ≡ true). inr (f ∙ sym (ap (λ xs. at xs t) e ∙ taken_at from ss env t h (below_of (length env) ss t below h))))
      (λ (h : is_among ss t ≡ false). inr (sym (ap (λ xs. at xs t) e ∙ taken_other from ss env t h)))
      (cases_Bool (is_among ss t)))
      (once t),
)
