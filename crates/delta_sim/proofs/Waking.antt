-- What wakes, step by step.
use Rattle.std.specs.Prelude.{◌≡◌, ◌≢◌, refl, ℕ, ◌<◌, ◌≤◌, ◌⊎◌, ◌||◌, Bool, true, false, List, length, slice_set, slice_index_or, ℤ, pos, negsuc, unsigned_abs}
use Rattle.std.proofs.Common.{sym, ◌∙◌, ap, arith, subst, inl, inr, ⊎_elim}
use Rattle.std.proofs.lemmas.Bool.{cases_eq, cases_lt, false≢true}
use Rattle.std.proofs.lemmas.List.{get_or_past, get_or-set_same, get_or-set_other}
use Rattle.design_ir.specs.Circuits.{at, is_among}
use Rattle.sim_plans.specs.Given.{marked}
use Rattle.sim_plans.specs.Plans.{readers_of, IsTable, Wakes}
use Rattle.sim_plans.proofs.Marks.{marked_at, marked_length}

pub cases_int : (x y : ℤ) → (x ≡ y) ⊎ (x ≢ y)
cases_int (pos m) (pos n) = ⊎_elim (λ e. inl (ap pos e)) (λ e. inr (λ f. e (ap unsigned_abs f))) (cases_eq m n)
cases_int (negsuc m) (negsuc n) = ⊎_elim (λ e. inl (ap negsuc e)) (λ e. inr (λ f. e (omega (arith, ap unsigned_abs f)))) (cases_eq m n)
cases_int (pos m) (negsuc n) = inr (λ f. cc)
cases_int (negsuc m) (pos n) = inr (λ f. cc)

or_cases : (a b : Bool) → (a || b) ≡ true → (a ≡ true) ⊎ (b ≡ true)
or_cases true b e = inl refl
or_cases false b e = inr e

or_left : (a b : Bool) → a ≡ true → (a || b) ≡ true
or_left true b e = refl
or_left false b e = absurd (false≢true e)

or_right : (a b : Bool) → b ≡ true → (a || b) ≡ true
or_right true b e = refl
or_right false b e = e

module _ (table : List (List ℕ)) where
  pub wakes_none : (env : List ℤ) (was : List Bool) → Wakes table env env was was
  wakes_none env was = record { count = refl; stays = λ k h. h; wakes = λ s k h r. absurd (h refl); sound = λ k h. inl h }

  -- one signal after another, each of which changes once
  pub wakes_more : (old mid new : List ℤ) (was then is : List Bool) → ((s : ℕ) → (at old s ≡ at mid s) ⊎ (at mid s ≡ at new s)) → Wakes table old mid was then → Wakes table mid new then is → Wakes table old new was is
  wakes_more old mid new was then is once first more = record {
    count = more.count ∙ first.count;
    stays = λ k h. more.stays k (first.stays k h);
    wakes = λ s k h r. ⊎_elim (λ e. more.wakes s k (λ f. h (e ∙ f)) r) (λ e. more.stays k (first.wakes s k (λ f. h (f ∙ e)) r)) (once s);
    sound = λ k h.
        ⊎_elim
        (λ was_then. ⊎_elim (λ w. inl w) (λ (x : (s : ℕ) × (at old s ≢ at mid s) × (is_among (readers_of table s) k ≡ true)). inr (x.0, (λ f. ⊎_elim (λ e. x.1 e) (λ e. x.1 (f ∙ sym e)) (once x.0)), x.2)) (first.sound k was_then))
        (λ (x : (s : ℕ) × (at mid s ≢ at new s) × (is_among (readers_of table s) k ≡ true)). inr (x.0, (λ f. ⊎_elim (λ e. x.1 (sym e ∙ f)) (λ e. x.1 e) (once x.0)), x.2))
        (more.sound k h);
  }

  -- one signal takes another number
  pub wakes_one : (n bound : ℕ) (env : List ℤ) (s : ℕ) (v : ℤ) (was is : List Bool) → IsTable n bound table → length was ≡ bound → s < length env → at env s ≢ v → is ≡ marked (readers_of table s) was → Wakes table env (slice_set env s v) was is
  wakes_one n bound env s v was is rules long there other marks = record {
    count = ap length marks ∙ marked_length (readers_of table s) was;
    stays = λ k h. at_mark k (inside k h) ∙ or_left (slice_index_or was k false) (is_among (readers_of table s) k) h;
    wakes = λ t k h r. ⊎_elim
        (λ (e : t ≡ s). let r' = subst (λ x. is_among (readers_of table x) k ≡ true) e r in at_mark k (subst (λ b. k < b) (sym long) (rules.below s k r')) ∙ or_right (slice_index_or was k false) (is_among (readers_of table s) k) r')
        (λ (e : t ≢ s). absurd (h (sym (get_or-set_other env s t v (pos 0) e))))
        (cases_eq t s);
    sound = λ k h.
        let k' : k < length was = subst (λ b. k < b) (ap length marks ∙ marked_length (readers_of table s) was) (within is k h) in
        ⊎_elim (λ w. inl w) (λ r. inr (s, (λ f. other (f ∙ get_or-set_same env s v (pos 0) there)), r)) (or_cases (slice_index_or was k false) (is_among (readers_of table s) k) (sym (at_mark k k') ∙ h));
  }
    where
      within : (xs : List Bool) (k : ℕ) → slice_index_or xs k false ≡ true → k < length xs
      within xs k h = ⊎_elim (λ l. l) (λ (past : length xs ≤ k). absurd (false≢true (sym (get_or_past xs k false past) ∙ h))) (cases_lt k (length xs))

      inside : (k : ℕ) → slice_index_or was k false ≡ true → k < length was
      inside k h = within was k h

      at_mark : (k : ℕ) → k < length was → slice_index_or is k false ≡ (slice_index_or was k false || is_among (readers_of table s) k)
      at_mark k h = ap (λ xs. slice_index_or xs k false) marks ∙ marked_at (readers_of table s) was k h
