-- A reset goes by which signals are driven, however often each is listed.
use Rattle.std.specs.Prelude.{◌≡◌, ◌≢◌, refl, ℕ, ◌<◌, ◌==◌, ◌||◌, Bool, true, false, cond, List, [], ◌∷◌, length, slice_get, slice_set, ℤ, pos, Option, Some, None}
use Rattle.std.proofs.Common.{sym, ◌∙◌, ap, subst}
use Rattle.std.proofs.lemmas.Bool.{eqb-true, eq-eqb, false≢true}
use Rattle.std.proofs.lemmas.List.{length-set, get_or-set_same, get_or-set_other}
use Rattle.design_ir.specs.declared.signal.Sig.{Sig}
use Rattle.design_ir.specs.Circuits.{at, is_among}
use Rattle.design_ir.specs.Steps.{reset_to, reset_all}
use Rattle.sim_plans.specs.Driven.{IsLike}
use Rattle.sim_plans.proofs.Settling.{same_lists}
use Rattle.sim_plans.proofs.WritesFit.{either}

-- what a signal has after its reset
abbrev reset_number : Option Sig → ℤ → ℤ
reset_number None n = n
reset_number (Some x) n = cond x.reset_less n x.init

reset_length : (s : ℕ) (o : Option Sig) (cur : List ℤ) → length (reset_to s cur o) ≡ length cur
reset_length s None cur = refl
reset_length s (Some x) cur =
    either (λ (ys : List ℤ). length ys ≡ length cur) x.reset_less cur (slice_set cur s x.init) refl (length-set cur s x.init)

at_choice : (t : Bool) (xs ys : List ℤ) (s : ℕ) → at (cond t xs ys) s ≡ cond t (at xs s) (at ys s)
at_choice true xs ys s = refl
at_choice false xs ys s = refl

reset_own : (s : ℕ) (o : Option Sig) (cur : List ℤ) → s < length cur → at (reset_to s cur o) s ≡ reset_number o (at cur s)
reset_own s None cur there = refl
reset_own s (Some x) cur there =
    at_choice x.reset_less cur (slice_set cur s x.init) s ∙ ap (λ n. cond x.reset_less (at cur s) n) (get_or-set_same cur s x.init (pos 0) there)

reset_other : (s t : ℕ) (o : Option Sig) (cur : List ℤ) → t ≢ s → at (reset_to s cur o) t ≡ at cur t
reset_other s t None cur other = refl
reset_other s t (Some x) cur other =
    either (λ (ys : List ℤ). at ys t ≡ at cur t) x.reset_less cur (slice_set cur s x.init) refl (get_or-set_other cur s t x.init (pos 0) other)

-- a second reset changes nothing
twice : (o : Option Sig) (n : ℤ) → reset_number o (reset_number o n) ≡ reset_number o n
twice None n = refl
twice (Some x) n = again x.reset_less n x.init
  where
    again : (t : Bool) (n m : ℤ) → cond t (cond t n m) m ≡ cond t n m
    again true n m = refl
    again false n m = refl

module _ (sigs : List Sig) where
  pub resets_length : (ss : List ℕ) (cur : List ℤ) → length (reset_all sigs cur ss) ≡ length cur
  resets_length [] cur = refl
  resets_length (s ∷ ss) cur = resets_length ss (reset_to s cur (slice_get sigs s)) ∙ reset_length s (slice_get sigs s) cur

  resets_at : (ss : List ℕ) (cur : List ℤ) (t : ℕ) → t < length cur → at (reset_all sigs cur ss) t ≡ cond (is_among ss t) (reset_number (slice_get sigs t) (at cur t)) (at cur t)
  resets_at [] cur t there = refl
  resets_at (s ∷ ss) cur t there =
      let now : List ℤ = reset_to s cur (slice_get sigs s) in
      let o : Option Sig = slice_get sigs t in
      resets_at ss now t (subst (λ n. t < n) (sym (reset_length s (slice_get sigs s) cur)) there) ∙ split (s == t) refl
    where
      settled : (b : Bool) (o : Option Sig) (n : ℤ) → cond b (reset_number o (reset_number o n)) (reset_number o n) ≡ reset_number o n
      settled true o n = twice o n
      settled false o n = refl

      split : (b : Bool) → (s == t) ≡ b → cond (is_among ss t) (reset_number (slice_get sigs t) (at (reset_to s cur (slice_get sigs s)) t)) (at (reset_to s cur (slice_get sigs s)) t) ≡ cond ((s == t) || is_among ss t) (reset_number (slice_get sigs t) (at cur t)) (at cur t)
      split true e =
          let same : s ≡ t = eqb-true s t e in
          let here : at (reset_to s cur (slice_get sigs s)) t ≡ reset_number (slice_get sigs t) (at cur t) = ap (λ k. at (reset_to k cur (slice_get sigs k)) t) same ∙ reset_own t (slice_get sigs t) cur there in
          ap (λ n. cond (is_among ss t) (reset_number (slice_get sigs t) n) n) here
          ∙ settled (is_among ss t) (slice_get sigs t) (at cur t)
          ∙ sym (ap (λ b. cond (b || is_among ss t) (reset_number (slice_get sigs t) (at cur t)) (at cur t)) e)
      split false e =
          let other : t ≢ s = λ same. false≢true (sym e ∙ eq-eqb s t (sym same)) in
          ap (λ n. cond (is_among ss t) (reset_number (slice_get sigs t) n) n) (reset_other s t (slice_get sigs s) cur other)
          ∙ sym (ap (λ b. cond (b || is_among ss t) (reset_number (slice_get sigs t) (at cur t)) (at cur t)) e)

  pub resets_like : (ss ts : List ℕ) (cur : List ℤ) → IsLike ss ts → reset_all sigs cur ss ≡ reset_all sigs cur ts
  resets_like ss ts cur like =
      same_lists (reset_all sigs cur ss) (reset_all sigs cur ts) (resets_length ss cur ∙ sym (resets_length ts cur))
      (λ t h.
      let there : t < length cur = subst (λ n. t < n) (resets_length ss cur) h in
      resets_at ss cur t there
      ∙ ap (λ b. cond b (reset_number (slice_get sigs t) (at cur t)) (at cur t)) (like t)
      ∙ sym (resets_at ts cur t there))
