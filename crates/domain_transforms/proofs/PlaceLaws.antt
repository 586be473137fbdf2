-- The first expressions that are signals, where one expression more comes.
use Rattle.std.proofs.Common.{◌≡◌, ◌≢◌, ℕ, zero, suc, ◌+◌, ◌<◌, ◌==◌, Bool, true, false, cond, List, [], ◌∷◌, ◌++◌, length, Some, None, slice_get, slice_set, refl, sym, ap, ◌∙◌, arith, ⊎_elim}
use Rattle.std.specs.Prelude.{Option, is_some, option_to_list}
use Rattle.std.specs.List.{cons_option, filter_map}
use Rattle.std.proofs.lemmas.Bool.{false≢true, eqb-true, eq-eqb, cases_eq}
use Rattle.std.proofs.lemmas.List.{length-set}
use Rattle.std.proofs.lemmas.List.Elements.{filter_map-append}
use Rattle.design_ir.specs.declared.ids.ExprId.{ExprId}
use Rattle.design_ir.specs.declared.ids.SigId.{SigId}
use Rattle.design_ir.specs.declared.expr.Expr.{Expr}
use Rattle.design_ir.specs.declared.expr.Expr.TheVariants as expr
use Rattle.design_ir.specs.Settling.{is_signal}
use Rattle.domain_transforms.specs.Resetting.{place_from}
use Rattle.domain_transforms.specs.Placed.{ArePlaces}

-- ---- one expression more

module _ (s : ℕ) (e : Expr) where
  pub place_kept : is_signal s e ≡ false → (k : ℕ) (es : List Expr) → place_from s k (es ++ e ∷ []) ≡ place_from s k es
  place_kept other k [] = ap (λ b. cond b (Some (record { 0 = k })) None) other
  place_kept other k (x ∷ es) = ap (cond (is_signal s x) (Some (record { 0 = k }))) (place_kept other (suc k) es)

  pub place_found : (k : ℕ) (es : List Expr) (t : ExprId) → place_from s k es ≡ Some t → place_from s k (es ++ e ∷ []) ≡ Some t
  place_found k [] t h = absurd cc
  place_found k (x ∷ es) t h = by (place_found (suc k) es t) (is_signal s x) h
    where
      by : (place_from s (suc k) es ≡ Some t → place_from s (suc k) (es ++ e ∷ []) ≡ Some t) → (b : Bool) → cond b (Some (record { 0 = k })) (place_from s (suc k) es) ≡ Some t → cond b (Some (record { 0 = k })) (place_from s (suc k) (es ++ e ∷ [])) ≡ Some t
      by rest true h = h
      by rest false h = rest h

  pub place_fresh : is_signal s e ≡ true → (k : ℕ) (es : List Expr) → place_from s k es ≡ None → place_from s k (es ++ e ∷ []) ≡ Some (record { 0 = k + length es })
  place_fresh is k [] h = ap (λ b. cond b (Some (record { 0 = k })) None) is ∙ ap (λ n. Some (record { 0 = n })) (let same : k ≡ k + 0 = omega arith in same)
  place_fresh is k (x ∷ es) h = by (place_fresh is (suc k) es) (is_signal s x) h
    where
      by : (place_from s (suc k) es ≡ None → place_from s (suc k) (es ++ e ∷ []) ≡ Some (record { 0 = suc k + length es })) → (b : Bool) → cond b (Some (record { 0 = k })) (place_from s (suc k) es) ≡ None
          → cond b (Some (record { 0 = k })) (place_from s (suc k) (es ++ e ∷ [])) ≡ Some (record { 0 = k + suc (length es) })
      by rest true h = absurd cc
      by rest false h = rest h ∙ ap (λ n. Some (record { 0 = n })) (let same : suc k + length es ≡ k + suc (length es) = omega arith in same)

-- ---- the places of all signals

pub places_other : (exprs : List Expr) (places : List (Option ExprId)) (e : Expr) → ((s : ℕ) → is_signal s e ≡ false) → ArePlaces exprs places → ArePlaces (exprs ++ e ∷ []) places
places_other exprs places e none h = record { size = h.size; each = λ s low. h.each s low ∙ ap (λ o. Some o) (sym (place_kept s e (none s) 0 exprs)) }

no_signal : (e : Expr) → ((s : SigId) → e ≡ expr.Sig s → ⊥) → (s : ℕ) → is_signal s e ≡ false
no_signal (expr.Const n k) h s = refl
no_signal (expr.Sig t) h s = absurd (h t refl)
no_signal (expr.Unary op a) h s = refl
no_signal (expr.Binary op a b) h s = refl
no_signal (expr.Mux c a b) h s = refl
no_signal (expr.Slice a low width) h s = refl
no_signal (expr.Cat es) h s = refl
no_signal (expr.Part a offset width stride) h s = refl
no_signal (expr.Pick index es) h s = refl
no_signal (expr.Cast a signed) h s = refl
no_signal (expr.Matches a patterns) h s = refl
no_signal (expr.Reset domain place) h s = refl

pub places_no_signal : (exprs : List Expr) (places : List (Option ExprId)) (e : Expr) → ((s : SigId) → e ≡ expr.Sig s → ⊥) → ArePlaces exprs places → ArePlaces (exprs ++ e ∷ []) places
places_no_signal exprs places e other = places_other exprs places e (no_signal e other)

apart : (t s : ℕ) → s ≢ t → (t == s) ≡ false
apart t s h = by (t == s) refl
  where
    by : (b : Bool) → (t == s) ≡ b → b ≡ false
    by true e = absurd (h (sym (eqb-true t s e)))
    by false e = refl

-- the signal has a place already
pub places_found : (exprs : List Expr) (places : List (Option ExprId)) (t : SigId) (u : ExprId) → slice_get places t.0 ≡ Some (Some u) → ArePlaces exprs places → ArePlaces (exprs ++ expr.Sig t ∷ []) places
places_found exprs places t u at h = record {
  size = h.size;
  each = λ s low.
      ⊎_elim
      (λ (same : s ≡ t.0). let was : place_from s 0 exprs ≡ Some u = inside (sym (h.each s low) ∙ ap (slice_get places) same ∙ at) in h.each s low ∙ ap (λ o. Some o) (was ∙ sym (place_found s (expr.Sig t) 0 exprs u was)))
      (λ (other : s ≢ t.0). h.each s low ∙ ap (λ o. Some o) (sym (place_kept s (expr.Sig t) (apart t.0 s other) 0 exprs)))
      (cases_eq s t.0);
}
  where
    inside : {A : Type 0} {x y : A} → Some x ≡ Some y → x ≡ y
    inside e = cc

get_set_same : {A : Type 0} (xs : List A) (t : ℕ) (x y : A) → slice_get xs t ≡ Some y → slice_get (slice_set xs t x) t ≡ Some x
get_set_same [] t x y at = absurd cc
get_set_same (z ∷ xs) zero x y at = refl
get_set_same (z ∷ xs) (suc t) x y at = get_set_same xs t x y at

get_set_other : {A : Type 0} (xs : List A) (t s : ℕ) (x : A) → s ≢ t → slice_get (slice_set xs t x) s ≡ slice_get xs s
get_set_other [] t s x h = refl
get_set_other (z ∷ xs) zero zero x h = absurd (h refl)
get_set_other (z ∷ xs) zero (suc s) x h = refl
get_set_other (z ∷ xs) (suc t) zero x h = refl
get_set_other (z ∷ xs) (suc t) (suc s) x h = get_set_other xs t s x (λ e. h (ap suc e))

-- it gets one
pub places_fresh : (exprs : List Expr) (places : List (Option ExprId)) (t : SigId) (id : ExprId) → length exprs ≡ id.0 → slice_get places t.0 ≡ Some None → ArePlaces exprs places → ArePlaces (exprs ++ expr.Sig t ∷ []) (slice_set places t.0 (Some id))
places_fresh exprs places t id count at h = record {
  size = length-set places t.0 (Some id) ∙ h.size;
  each = λ s low.
      ⊎_elim
      (λ (same : s ≡ t.0). let was : place_from s 0 exprs ≡ None = inside (sym (h.each s low) ∙ ap (slice_get places) same ∙ at) in
      ap (slice_get (slice_set places t.0 (Some id))) same ∙ get_set_same places t.0 (Some id) None at ∙ ap (λ n. Some (Some (record { 0 = n }))) (sym count) ∙ ap (λ o. Some o) (sym (place_fresh s (expr.Sig t) (eq-eqb t.0 s (sym same)) 0 exprs was ∙ ap (λ n. Some (record { 0 = n })) (let e : 0 + length exprs ≡ length exprs = omega arith in e))))
      (λ (other : s ≢ t.0). get_set_other places t.0 s (Some id) other ∙ h.each s low ∙ ap (λ o. Some o) (sym (place_kept s (expr.Sig t) (apart t.0 s other) 0 exprs)))
      (cases_eq s t.0);
}
  where
    inside : {A : Type 0} {x y : A} → Some x ≡ Some y → x ≡ y
    inside e = cc

-- where none is looked at, no signal has a place
pub places_none : (places : List (Option ExprId)) → length places ≡ 16384 → ((s : ℕ) → s < 16384 → slice_get places s ≡ Some None) → ArePlaces [] places
places_none places size none = record { size = size; each = none }

-- ---- what has a place

pub place_stands : (s k : ℕ) (es : List Expr) (t : ExprId) → place_from s k es ≡ Some t → (j : ℕ) × (e : Expr) × (slice_get es j ≡ Some e) × (is_signal s e ≡ true) × (t ≡ record { 0 = k + j })
place_stands s k [] t h = absurd cc
place_stands s k (x ∷ es) t h = by (place_stands s (suc k) es t) (is_signal s x) refl h
  where
    by : (place_from s (suc k) es ≡ Some t → (j : ℕ) × (e : Expr) × (slice_get es j ≡ Some e) × (is_signal s e ≡ true) × (t ≡ record { 0 = suc k + j })) → (b : Bool) → is_signal s x ≡ b → cond b (Some (record { 0 = k })) (place_from s (suc k) es) ≡ Some t
        → (j : ℕ) × (e : Expr) × (slice_get (x ∷ es) j ≡ Some e) × (is_signal s e ≡ true) × (t ≡ record { 0 = k + j })
    by rest true is h = let same : t ≡ record { 0 = k } = cc in (0, x, refl, is, same ∙ ap (λ n. record { 0 = n }) (let e : k ≡ k + 0 = omega arith in e))
    by rest false is h =
        let r = rest h in
        (suc r.0, r.1, r.2, r.3, r.4 ∙ ap (λ n. record { 0 = n }) (let e : suc k + r.0 ≡ k + suc r.0 = omega arith in e))

-- ---- registers, one after another

pub filter_map-push : {A B : Type 0} (f : A → Option B) (xs : List A) (x : A) → filter_map f (xs ++ x ∷ []) ≡ filter_map f xs ++ option_to_list (f x)
filter_map-push {A} {B} f xs x = filter_map-append f xs (x ∷ []) ∙ ap (λ ys. filter_map f xs ++ ys) (one (f x) refl)
  where
    one : (o : Option B) → f x ≡ o → filter_map f (x ∷ []) ≡ option_to_list o
    one None e = ap (λ r. cons_option r []) e
    one (Some y) e = ap (λ r. cons_option r []) e

pub none_of : {A : Type 0} (o : Option A) → is_some o ≡ false → o ≡ None
none_of None e = refl
none_of (Some x) e = absurd (false≢true (sym e))

pub some_of : {A : Type 0} (o : Option A) → is_some o ≡ true → (x : A) × (o ≡ Some x)
some_of None e = absurd (false≢true e)
some_of (Some x) e = (x, refl)
