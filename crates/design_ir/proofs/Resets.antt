-- What a reset leaves is decided by which signals are reset, whatever their order.
use Rattle.std.specs.Prelude.{◌≡◌, ◌≢◌, refl, ℕ, suc, ◌<◌, ◌≤◌, ◌==◌, ◌||◌, Bool, true, false, if◌then◌else◌, List, [], ◌∷◌, length, slice_get, slice_set, ℤ, pos, Option, Some, None}
use Rattle.std.proofs.Common.{sym, ◌∙◌, ap, arith, subst, ⊎_elim, eq-eqb}
use Rattle.std.proofs.lemmas.Bool.{cond_both, cases_eq, cases_lt, eqb-true, false_from_ne_true}
use Rattle.std.proofs.lemmas.List.{length-set, get_or_past, get_or-set_same, get_or-set_other}
use Rattle.design_ir.specs.declared.signal.Sig.{Sig}
use Rattle.design_ir.specs.Circuits.{at, is_among}
use Rattle.design_ir.specs.Steps.{reset_to, reset_all}
use Rattle.design_ir.specs.Clearing.{own}

-- lists of one length that have the same at each place
pub lists_same : (xs ys : List ℤ) → length xs ≡ length ys → ((s : ℕ) → s < length xs → at xs s ≡ at ys s) → xs ≡ ys
lists_same [] [] e same = refl
lists_same [] (y ∷ ys) e same = absurd (omega (arith, e))
lists_same (x ∷ xs) [] e same = absurd (omega (arith, e))
lists_same (x ∷ xs) (y ∷ ys) e same =
    let head : x ≡ y = same 0 (omega arith) in
    let tail : xs ≡ ys = lists_same xs ys (omega (arith, e)) (λ s l. same (suc s) (omega (arith, l))) in
    λ i. head i ∷ tail i

same_twice : (b : Bool) (n m : ℤ) → (if b then (if b then n else m) else m) ≡ (if b then n else m)
same_twice true n m = refl
same_twice false n m = refl

pub own_twice : (o : Option Sig) (n : ℤ) → own o (own o n) ≡ own o n
own_twice None n = refl
own_twice (Some x) n = same_twice x.reset_less n x.init

own_either : (b : Bool) (o : Option Sig) (n : ℤ) → (if b then own o (own o n) else own o n) ≡ own o n
own_either true o n = own_twice o n
own_either false o n = refl

kept_or_set : (b : Bool) (cur : List ℤ) (s : ℕ) (n : ℤ) → s < length cur → at (if b then cur else slice_set cur s n) s ≡ (if b then at cur s else n)
kept_or_set true cur s n there = refl
kept_or_set false cur s n there = get_or-set_same cur s n (pos 0) there

to_same : (s : ℕ) (cur : List ℤ) (o : Option Sig) → s < length cur → at (reset_to s cur o) s ≡ own o (at cur s)
to_same s cur None there = refl
to_same s cur (Some x) there = kept_or_set x.reset_less cur s x.init there

to_other : (s t : ℕ) (cur : List ℤ) (o : Option Sig) → s ≢ t → at (reset_to t cur o) s ≡ at cur s
to_other s t cur None apart = refl
to_other s t cur (Some x) apart = cond_both x.reset_less cur (slice_set cur t x.init) (λ xs. at xs s ≡ at cur s) (λ e. refl) (λ e. get_or-set_other cur t s x.init (pos 0) apart)

to_length : (t : ℕ) (cur : List ℤ) (o : Option Sig) → length (reset_to t cur o) ≡ length cur
to_length t cur None = refl
to_length t cur (Some x) = cond_both x.reset_less cur (slice_set cur t x.init) (λ xs. length xs ≡ length cur) (λ e. refl) (λ e. length-set cur t x.init)

module _ (sigs : List Sig) where
  pub resets_length : (ss : List ℕ) (cur : List ℤ) → length (reset_all sigs cur ss) ≡ length cur
  resets_length [] cur = refl
  resets_length (t ∷ ss) cur = resets_length ss (reset_to t cur (slice_get sigs t)) ∙ to_length t cur (slice_get sigs t)

  pub resets_at : (ss : List ℕ) (cur : List ℤ) (s : ℕ) → s < length cur → at (reset_all sigs cur ss) s ≡ (if is_among ss s then own (slice_get sigs s) (at cur s) else at cur s)
  resets_at [] cur s there = refl
  resets_at (t ∷ ss) cur s there =
      let next : List ℤ = reset_to t cur (slice_get sigs t) in
      let later = resets_at ss next s (omega (arith, there, to_length t cur (slice_get sigs t))) in
      ⊎_elim
      (λ (e : t ≡ s).
      let now : at next s ≡ own (slice_get sigs s) (at cur s) = subst (λ u. at (reset_to u cur (slice_get sigs u)) s ≡ own (slice_get sigs s) (at cur s)) (sym e) (to_same s cur (slice_get sigs s) there) in
      later
      ∙ ap (λ n. if is_among ss s then own (slice_get sigs s) n else n) now
      ∙ own_either (is_among ss s) (slice_get sigs s) (at cur s)
      ∙ ap (λ b. if b || is_among ss s then own (slice_get sigs s) (at cur s) else at cur s) (sym (eq-eqb t s e)))
      (λ (e : t ≢ s).
      later
      ∙ ap (λ n. if is_among ss s then own (slice_get sigs s) n else n) (to_other s t cur (slice_get sigs t) (λ same. e (sym same)))
      ∙ ap (λ b. if b || is_among ss s then own (slice_get sigs s) (at cur s) else at cur s) (sym (false_from_ne_true (t == s) (λ h. e (eqb-true t s h)))))
      (cases_eq t s)

  pub resets_same : (ss ts : List ℕ) (cur : List ℤ) → ((s : ℕ) → is_among ss s ≡ is_among ts s) → reset_all sigs cur ss ≡ reset_all sigs cur ts
  resets_same ss ts cur same =
      lists_same (reset_all sigs cur ss) (reset_all sigs cur ts) (resets_length ss cur ∙ sym (resets_length ts cur))
      (λ s l. let there : s < length cur = omega (arith, l, resets_length ss cur) in resets_at ss cur s there ∙ ap (λ b. if b then own (slice_get sigs s) (at cur s) else at cur s) (same s) ∙ sym (resets_at ts cur s there))

  pub resets_other : (ss : List ℕ) (cur : List ℤ) (s : ℕ) → is_among ss s ≡ false → at (reset_all sigs cur ss) s ≡ at cur s
  resets_other ss cur s e = ⊎_elim
      (λ (there : s < length cur). resets_at ss cur s there ∙ ap (λ b. if b then own (slice_get sigs s) (at cur s) else at cur s) e)
      (λ (past : length cur ≤ s). get_or_past (reset_all sigs cur ss) s (pos 0) (omega (arith, past, resets_length ss cur)) ∙ sym (get_or_past cur s (pos 0) past))
      (cases_lt s (length cur))
