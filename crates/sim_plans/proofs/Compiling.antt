-- What is worked out of one process.
use Rattle.std.specs.Prelude.{◌≡◌, refl, ℕ, ◌+◌, ◌<◌, ◌≤◌, ◌⊎◌, ◌==◌, ◌||◌, Bool, true, false, List, [], ◌++◌, length, slice_get, Some}
use Rattle.std.specs.List.{AllByRecursion}
use Rattle.std.specs.List.Sorted.{IsPermutation}
use Rattle.std.proofs.lemmas.List.Sorted.{list_any-IsPermutation}
use Rattle.std.proofs.Common.{sym, ◌∙◌, ap, arith, ⊎_elim, inl, inr, get_or}
use Rattle.std.proofs.lemmas.Bool.{cases_lt, eq-eqb, eqb-true, false≢true}
use Rattle.design_ir.specs.declared.expr.Expr as expr
use Rattle.design_ir.specs.declared.expr.Expr.{Expr}
use Rattle.design_ir.specs.declared.expr.Expr.TheVariants.{Const, Unary, Binary, Mux, Slice, Cat, Part, Pick, Cast, Matches, Reset}
use Rattle.design_ir.specs.declared.ids.SigId.{SigId}
use Rattle.design_ir.specs.Circuits.{is_among}
use Rattle.design_ir.specs.Pools.{Pooled}
use Rattle.sim_plans.specs.Compiled.{HoldsSignal, own_signal}
use Rattle.sim_plans.specs.Driven.{numbers_of}
use Rattle.sim_plans.specs.Marks.{is_marked}
use Rattle.sim_plans.specs.Waiting.{Waiting, IsWaiting}
use Rattle.sim_plans.proofs.Agrees.{left, right}
use Rattle.sim_plans.proofs.Likes.{among_append, numbers_append}
use Rattle.sim_plans.proofs.SignalsInside.{all_of}
use Rattle.sim_plans.proofs.Spreading.{place_of, turn_marked, within}

or_cases : (a b : Bool) → (a || b) ≡ true → (a ≡ true) ⊎ (b ≡ true)
or_cases true b e = inl refl
or_cases false b e = inr e

or_false : (a : Bool) → (a || false) ≡ true → a ≡ true
or_false true e = refl
or_false false e = e

among_parts : (xs ys : List SigId) (s : ℕ) → is_among (numbers_of (xs ++ ys)) s ≡ (is_among (numbers_of xs) s || is_among (numbers_of ys) s)
among_parts xs ys s = ap (λ zs. is_among zs s) (numbers_append xs ys) ∙ among_append (numbers_of xs) (numbers_of ys) s

-- an expression whose signal is among its own is that signal
own_is : (p : Pooled) (values : List Bool) (k s : ℕ) (e : Expr) → slice_get p.exprs k ≡ Some e → is_marked values k ≡ true → is_among (numbers_of (own_signal e)) s ≡ true → HoldsSignal p values s
own_is p values k s (expr.TheVariants.Sig x) is m h = record { k = k; sig = x; is = is; same = eqb-true x.0 s (or_false (x.0 == s) h); marked = m }
own_is p values k s (Const n f) is m h = absurd (false≢true h)
own_is p values k s (Unary op a) is m h = absurd (false≢true h)
own_is p values k s (Binary op a b) is m h = absurd (false≢true h)
own_is p values k s (Mux i a b) is m h = absurd (false≢true h)
own_is p values k s (Slice a low width) is m h = absurd (false≢true h)
own_is p values k s (Cat es) is m h = absurd (false≢true h)
own_is p values k s (Part a offset width stride) is m h = absurd (false≢true h)
own_is p values k s (Pick index es) is m h = absurd (false≢true h)
own_is p values k s (Cast a signed) is m h = absurd (false≢true h)
own_is p values k s (Matches a patterns) is m h = absurd (false≢true h)
own_is p values k s (Reset domain place) is m h = absurd (false≢true h)

module _ (p : Pooled) (w : Waiting) (rules : IsWaiting w) (i k : ℕ) (there : i < length w.list) (here : k ≡ get_or w.list i 0) (e : Expr) (is : slice_get p.exprs k ≡ Some e) (list new : List SigId) (grown : new ≡ list ++ own_signal e) where
  parts : (s : ℕ) → is_among (numbers_of new) s ≡ (is_among (numbers_of list) s || is_among (numbers_of (own_signal e)) s)
  parts s = ap (λ xs. is_among (numbers_of xs) s) grown ∙ among_parts list (own_signal e) s

  pub signals_all : ((j : ℕ) (s : SigId) → j < i → slice_get p.exprs (get_or w.list j 0) ≡ Some (expr.TheVariants.Sig s) → is_among (numbers_of list) s.0 ≡ true)
      → (j : ℕ) (s : SigId) → j < i + 1 → slice_get p.exprs (get_or w.list j 0) ≡ Some (expr.TheVariants.Sig s) → is_among (numbers_of new) s.0 ≡ true
  signals_all was j s below sig =
      ⊎_elim
      (λ (lt : j < i). parts s.0 ∙ left (is_among (numbers_of list) s.0) _ (was j s lt sig))
      (λ (ge : i ≤ j).
      let same : j ≡ i = omega (arith, below, ge) in
      let e_is : e ≡ expr.TheVariants.Sig s = let f : Some e ≡ Some (expr.TheVariants.Sig s) = sym is ∙ ap (slice_get p.exprs) (here ∙ ap (λ n. get_or w.list n 0) (sym same)) ∙ sig in cc in
      parts s.0 ∙ right (is_among (numbers_of list) s.0) _ (ap (λ x. is_among (numbers_of (own_signal x)) s.0) e_is ∙ left (s.0 == s.0) false (eq-eqb s.0 s.0 refl)))
      (cases_lt j i)

  pub signals_only : ((s : ℕ) → is_among (numbers_of list) s ≡ true → HoldsSignal p w.marks s) → (s : ℕ) → is_among (numbers_of new) s ≡ true → HoldsSignal p w.marks s
  signals_only was s h =
      ⊎_elim (λ old. was s old) (λ own. own_is p w.marks k s e is (turn_marked w rules i k there here) own) (or_cases (is_among (numbers_of list) s) _ (sym (parts s) ∙ h))

-- the signals of all that are marked
pub signals_listed : (p : Pooled) (w : Waiting) → IsWaiting w → (i : ℕ) → length w.list ≤ i → (list : List SigId)
    → ((j : ℕ) (s : SigId) → j < i → slice_get p.exprs (get_or w.list j 0) ≡ Some (expr.TheVariants.Sig s) → is_among (numbers_of list) s.0 ≡ true)
    → (k : ℕ) (s : SigId) → slice_get p.exprs k ≡ Some (expr.TheVariants.Sig s) → is_marked w.marks k ≡ true → is_among (numbers_of list) s.0 ≡ true
signals_listed p w rules i h list all k s is m =
    let r = place_of w.list k (sym (rules.listed k) ∙ m) in
    all r.0 s (omega (arith, r.1, h)) (ap (slice_get p.exprs) r.2 ∙ is)

-- ---- marked expressions in order

module _ (aims values : Waiting) (of_aims : IsWaiting aims) (of_values : IsWaiting values) (all sorted : List ℕ) (are : all ≡ ([] ++ aims.list) ++ values.list) (moved : IsPermutation all sorted) where
  pub sorted_has : (j : ℕ) → is_among sorted j ≡ (is_marked aims.marks j || is_marked values.marks j)
  sorted_has j =
      sym (list_any-IsPermutation (λ x. x == j) all sorted moved) ∙ ap (λ xs. is_among xs j) are ∙ among_append aims.list values.list j
      ∙ ap (λ b. b || is_among values.list j) (sym (of_aims.listed j)) ∙ ap (λ b. is_marked aims.marks j || b) (sym (of_values.listed j))

  pub sorted_below : (n : ℕ) → length aims.marks < n → length values.marks < n → AllByRecursion (λ k. k < n) sorted
  sorted_below n la lv = all_of (λ k. k < n) sorted (λ k h.
      ⊎_elim
      (λ (m : is_marked aims.marks k ≡ true). omega (arith, within aims.marks k m, la))
      (λ (m : is_marked values.marks k ≡ true). omega (arith, within values.marks k m, lv))
      (or_cases (is_marked aims.marks k) (is_marked values.marks k) (sym (sorted_has k) ∙ h)))
