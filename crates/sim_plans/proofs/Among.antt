-- What is among a program.
use Rattle.std.specs.Prelude.{◌≡◌, refl, ℕ, zero, suc, ◌-◌, ◌<◌, ◌||◌, ◌==◌, true, false, List, [], ◌∷◌, take, slice_get, Some}
use Rattle.std.specs.List.{AllByRecursion}
use Rattle.std.proofs.Common.{sym, ◌∙◌, ap, subst, ⊎_elim}
use Rattle.std.proofs.lemmas.Bool.{cases_Bool, eqb-true, false≢true}
use Rattle.design_ir.specs.declared.ids.ExprId.{ExprId}
use Rattle.design_ir.specs.Circuits.{is_among}
use Rattle.sim_plans.specs.Tasks.{AreAmong, places_of}

pub among_index : (list : List ExprId) (k : ℕ) → is_among (places_of list) k ≡ true → (i : ℕ) × (e : ExprId) × (slice_get list i ≡ Some e) × (e.0 ≡ k)
among_index [] k h = absurd (false≢true h)
among_index (x ∷ list) k h =
    ⊎_elim
    (λ (t : (x.0 == k) ≡ true). (0, x, refl, eqb-true x.0 k t))
    (λ (t : (x.0 == k) ≡ false). let r = among_index list k (sym (ap (λ b. b || is_among (places_of list) k) t) ∙ h) in (suc r.0, r.1, r.2, r.3))
    (cases_Bool (x.0 == k))

among_first : (i : ℕ) (list : List ExprId) (k : ℕ) → is_among (places_of (take i list)) k ≡ true → is_among (places_of list) k ≡ true
among_first zero [] k h = absurd (false≢true h)
among_first zero (x ∷ list) k h = absurd (false≢true h)
among_first (suc i) [] k h = absurd (false≢true h)
among_first (suc i) (x ∷ list) k h =
    ⊎_elim
    (λ (t : (x.0 == k) ≡ true). ap (λ b. b || is_among (places_of list) k) t)
    (λ (t : (x.0 == k) ≡ false). ap (λ b. b || is_among (places_of list) k) t ∙ among_first i list k (sym (ap (λ b. b || is_among (places_of (take i list)) k) t) ∙ h))
    (cases_Bool (x.0 == k))

pub all_first : (i : ℕ) (list es : List ExprId) → AreAmong (take i list) es → AreAmong list es
all_first i list [] h = tt
all_first i list (e ∷ es) h = (among_first i list e.0 h.0, all_first i list es h.1)

pub there_at : (count : ℕ) (list : List ExprId) (i : ℕ) (e : ExprId) → AllByRecursion (λ (x : ExprId). x.0 < count) list → slice_get list i ≡ Some e → e.0 < count
there_at count [] i e h is = cc
there_at count (x ∷ list) zero e h is = let same : x ≡ e = cc in subst (λ (y : ExprId). y.0 < count) same h.0
there_at count (x ∷ list) (suc i) e h is = there_at count list i e h.1 is
