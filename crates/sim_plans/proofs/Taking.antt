-- Signals that take their numbers from others, one after another.
use Rattle.std.specs.Prelude.{◌≡◌, ◌≢◌, refl, ℕ, ◌+◌, ◌<◌, ◌⊎◌, ◌==◌, ◌||◌, Bool, true, false, List, [], ◌∷◌, drop, length, slice_get, slice_set, ℤ, pos, Option, Some, None, option_map, unwrap_or}
use Rattle.std.specs.List.{AllByRecursion}
use Rattle.std.proofs.Common.{sym, ◌∙◌, ap, subst, inl, inr, ⊎_elim, get_or}
use Rattle.std.proofs.lemmas.Bool.{cases_eq, cases_Bool, eq-eqb, eqb-true, false≢true}
use Rattle.std.proofs.lemmas.List.{at_drop_more, length-set, get_or-set_same, get_or-set_other}
use Rattle.amh_bits.specs.Patterns.{IsOf}
use Rattle.shape_rules.specs.Forms.{Form, unsigned}
use Rattle.design_ir.specs.declared.ids.SigId.{SigId}
use Rattle.design_ir.specs.declared.signal.Sig.{Sig}
use Rattle.design_ir.specs.Circuits.{at, is_among}
use Rattle.design_ir.specs.Pools.{Pooled}
use Rattle.design_ir.specs.PoolRules.{IsPool, HasInit}
use Rattle.design_ir.proofs.NumbersFit.{FitsSignals}
use Rattle.sim_plans.specs.Driven.{numbers_of}
use Rattle.sim_plans.specs.Given.{marked}
use Rattle.sim_plans.specs.Plans.{IsTable, readers_of, taken, begun, init_at}
use Rattle.sim_plans.proofs.EdgesFit.{all_get}
use Rattle.sim_plans.proofs.Likes.{numbers_at}
use Rattle.sim_plans.proofs.WritesFit.{set_fits, OfSignal}

-- ---- marks

pub mark_turn : (list : List ℕ) (i k : ℕ) (marks new all : List Bool) → i < length list → k ≡ get_or list i k → new ≡ slice_set marks k true → marked (drop i list) marks ≡ all → marked (drop (i + 1) list) new ≡ all
mark_turn list i k marks new all h is e known =
    ap (marked (drop (i + 1) list)) e ∙ sym (at_drop_more (λ xs. marked xs marks) list i k h ∙ ap (λ x. marked (drop (i + 1) list) (slice_set marks x true)) (sym is)) ∙ known

pub all_among : (bound : ℕ) (xs : List ℕ) → ((k : ℕ) → is_among xs k ≡ true → k < bound) → AllByRecursion (λ k. k < bound) xs
all_among bound [] h = tt
all_among bound (x ∷ xs) h = (h x (here (x == x) (eq-eqb x x refl)), all_among bound xs (λ k among. h k (later k (x == k) among)))
  where
    here : (b : Bool) → b ≡ true → (b || is_among xs x) ≡ true
    here true e = refl
    here false e = absurd (false≢true e)

    later : (k : ℕ) (b : Bool) → is_among xs k ≡ true → (b || is_among xs k) ≡ true
    later k true e = refl
    later k false e = e

pub readers_below : (n bound : ℕ) (table : List (List ℕ)) (s : ℕ) → IsTable n bound table → AllByRecursion (λ k. k < bound) (readers_of table s)
readers_below n bound table s rules = all_among bound (readers_of table s) (rules.below s)

-- ---- numbers that are taken

pub take_turn : (from : List ℤ) (signals : List SigId) (i : ℕ) (s : SigId) (env new all : List ℤ) → i < length signals → s ≡ get_or signals i s → new ≡ slice_set env s.0 (at from s.0) → taken from (numbers_of (drop i signals)) env ≡ all → taken from (numbers_of (drop (i + 1) signals)) new ≡ all
take_turn from signals i s env new all h is e known =
    ap (taken from (numbers_of (drop (i + 1) signals))) e ∙ sym (ap (λ xs. taken from xs env) (numbers_at signals i s h is)) ∙ known

pub once_more : (first env new from : List ℤ) (s : ℕ) → s < length env → new ≡ slice_set env s (at from s) → ((t : ℕ) → (at first t ≡ at env t) ⊎ (at env t ≡ at from t)) → (t : ℕ) → (at first t ≡ at new t) ⊎ (at new t ≡ at from t)
once_more first env new from s there e once t =
    ⊎_elim
    (λ (same : t ≡ s). inr (ap (λ xs. at xs t) e ∙ ap (λ k. at (slice_set env s (at from s)) k) same ∙ get_or-set_same env s (at from s) (pos 0) there ∙ ap (at from) (sym same)))
    (λ (other : t ≢ s).
    let kept : at new t ≡ at env t = ap (λ xs. at xs t) e ∙ get_or-set_other env s t (at from s) (pos 0) other in
    ⊎_elim (λ (f : at first t ≡ at env t). inl (f ∙ sym kept)) (λ (f : at env t ≡ at from t). inr (kept ∙ f)) (once t))
    (cases_eq t s)

-- between an environment in which a signal has its number yet, or the one that is taken, and the next one
pub once_between : (first env new from : List ℤ) (s : ℕ) → s < length env → new ≡ slice_set env s (at from s) → ((t : ℕ) → (at first t ≡ at env t) ⊎ (at env t ≡ at from t)) → (t : ℕ) → (at first t ≡ at env t) ⊎ (at env t ≡ at new t)
once_between first env new from s there e once t =
    ⊎_elim (λ (f : at first t ≡ at env t). inl f)
    (λ (f : at env t ≡ at from t).
    ⊎_elim
    (λ (same : t ≡ s). inr (f ∙ sym (ap (λ xs. at xs t) e ∙ ap (λ k. at (slice_set env s (at from s)) k) same ∙ get_or-set_same env s (at from s) (pos 0) there ∙ ap (at from) (sym same))))
    (λ (other : t ≢ s). inr (sym (ap (λ xs. at xs t) e ∙ get_or-set_other env s t (at from s) (pos 0) other)))
    (cases_eq t s))
    (once t)

pub taken_length : (from : List ℤ) (ss : List ℕ) (env : List ℤ) → length (taken from ss env) ≡ length env
taken_length from [] env = refl
taken_length from (s ∷ ss) env = taken_length from ss (slice_set env s (at from s)) ∙ length-set env s (at from s)

pub taken_other : (from : List ℤ) (ss : List ℕ) (env : List ℤ) (t : ℕ) → is_among ss t ≡ false → at (taken from ss env) t ≡ at env t
taken_other from [] env t e = refl
taken_other from (s ∷ ss) env t e =
    ⊎_elim
    (λ (h : (s == t) ≡ true). absurd (false≢true (sym e ∙ ap (λ b. b || is_among ss t) h)))
    (λ (h : (s == t) ≡ false). taken_other from ss (slice_set env s (at from s)) t (sym (ap (λ b. b || is_among ss t) h) ∙ e) ∙ get_or-set_other env s t (at from s) (pos 0) (λ f. false≢true (sym h ∙ eq-eqb s t (sym f))))
    (cases_Bool (s == t))

pub taken_at : (from : List ℤ) (ss : List ℕ) (env : List ℤ) (t : ℕ) → is_among ss t ≡ true → t < length env → at (taken from ss env) t ≡ at from t
taken_at from [] env t e there = absurd (false≢true e)
taken_at from (s ∷ ss) env t e there =
    let there' : t < length (slice_set env s (at from s)) = subst (λ n. t < n) (sym (length-set env s (at from s))) there in
    ⊎_elim
    (λ (later : is_among ss t ≡ true). taken_at from ss (slice_set env s (at from s)) t later there')
    (λ (none : is_among ss t ≡ false).
    let here : s ≡ t = ⊎_elim (λ (h : (s == t) ≡ true). eqb-true s t h) (λ (h : (s == t) ≡ false). absurd (false≢true (sym none ∙ sym (ap (λ b. b || is_among ss t) h) ∙ e))) (cases_Bool (s == t)) in
    taken_other from ss (slice_set env s (at from s)) t none ∙ ap (λ k. at (slice_set env k (at from k)) t) here ∙ get_or-set_same env t (at from t) (pos 0) there)
    (cases_Bool (is_among ss t))

-- ---- inits

pub begin_turn : (sigs : List Sig) (signals : List SigId) (i : ℕ) (s : SigId) (cur new all : List ℤ) → i < length signals → s ≡ get_or signals i s → new ≡ init_at s.0 cur (slice_get sigs s.0) → begun sigs cur (numbers_of (drop i signals)) ≡ all → begun sigs new (numbers_of (drop (i + 1) signals)) ≡ all
begin_turn sigs signals i s cur new all h is e known =
    ap (λ xs. begun sigs xs (numbers_of (drop (i + 1) signals))) e ∙ sym (ap (begun sigs cur) (numbers_at signals i s h is)) ∙ known

init_fits : (p : Pooled) → IsPool p → (s : ℕ) (o : Option Sig) (cur : List ℤ) → slice_get p.signals s ≡ o → FitsSignals p cur → FitsSignals p (init_at s cur o)
init_fits p rules s None cur e fit = fit
init_fits p rules s (Some x) cur e fit = set_fits p cur s x.init (of_init p rules s x e) fit
  where
    of_init : (p : Pooled) → IsPool p → (s : ℕ) (x : Sig) → slice_get p.signals s ≡ Some x → OfSignal p s x.init
    of_init p rules s x e =
        let shape = sym (ap (λ (o : Option Sig). unwrap_or (option_map (λ (y : Sig). y.shape) o) (unsigned 0)) e) in
        subst (λ (f : Form). IsOf f.signed f.width x.init) shape (all_get HasInit p.signals s x rules.inits e)

pub begin_fits : (p : Pooled) → IsPool p → (s : ℕ) (cur new : List ℤ) → new ≡ init_at s cur (slice_get p.signals s) → FitsSignals p cur → FitsSignals p new
begin_fits p rules s cur new e fit = subst (FitsSignals p) (sym e) (init_fits p rules s (slice_get p.signals s) cur refl fit)

init_long : (s : ℕ) (o : Option Sig) (cur : List ℤ) → length (init_at s cur o) ≡ length cur
init_long s None cur = refl
init_long s (Some x) cur = length-set cur s x.init

pub begin_long : (sigs : List Sig) (s : ℕ) (cur new : List ℤ) → new ≡ init_at s cur (slice_get sigs s) → length new ≡ length cur
begin_long sigs s cur new e = ap length e ∙ init_long s (slice_get sigs s) cur
