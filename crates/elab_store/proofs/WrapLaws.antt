-- From what is wrapped to what stands within it.
use Rattle.std.proofs.Common.{◌≡◌, ◌∙◌, ℕ, zero, suc, ◌≤◌, ap, sym, refl, arith, List, [], ◌∷◌, ◌++◌, length, Option, Some, None}
use Rattle.std.specs.Prelude.{slice_get}
use Rattle.std.specs.Option.{option_map_or}
use Rattle.std.proofs.lemmas.List.{append-nil, append_assoc}
use Rattle.elab_store.specs.declared.wrappings.Wrapped.{Wrapped}
use Rattle.elab_store.specs.Wrappings.{wraps_from}

pub none_past : (ws : List Wrapped) (k : ℕ) → length ws ≤ k → slice_get ws k ≡ None
none_past [] k le = refl
none_past (w ∷ ws) zero le = absurd (omega (arith, le))
none_past (w ∷ ws) (suc k) le = none_past ws k (omega (arith, le))

wraps_none : (n : ℕ) (ws : List Wrapped) → wraps_from n ws None ≡ []
wraps_none zero ws = refl
wraps_none (suc n) ws = refl

wraps_absent : (n : ℕ) (ws : List Wrapped) (k : ℕ) → slice_get ws k ≡ None → wraps_from n ws (Some k) ≡ []
wraps_absent zero ws k e = refl
wraps_absent (suc n) ws k e = ap (λ (o : Option Wrapped). option_map_or (λ (w : Wrapped). w.by ∷ wraps_from n ws w.over) o []) e

wraps_more : (n : ℕ) (ws : List Wrapped) (k : ℕ) (x : Wrapped) → slice_get ws k ≡ Some x → wraps_from (suc n) ws (Some k) ≡ x.by ∷ wraps_from n ws x.over
wraps_more n ws k x e = ap (λ (o : Option Wrapped). option_map_or (λ (w : Wrapped). w.by ∷ wraps_from n ws w.over) o []) e

-- nothing more is wrapped
pub walk_ended : (ws : List Wrapped) (n : ℕ) (next : Option ℕ) (bys whole : List ℕ) → next ≡ None → bys ++ wraps_from n ws next ≡ whole → bys ≡ whole
walk_ended ws n next bys whole none so_far = sym (append-nil bys) ∙ ap (λ xs. bys ++ xs) (sym (ap (λ (o : Option ℕ). wraps_from n ws o) none ∙ wraps_none n ws)) ∙ so_far

-- what is not kept ends the walk
pub walk_absent : (ws : List Wrapped) (n k : ℕ) (bys whole : List ℕ) → slice_get ws k ≡ None → bys ++ wraps_from n ws (Some k) ≡ whole → bys ≡ whole
walk_absent ws n k bys whole none so_far = sym (append-nil bys) ∙ ap (λ xs. bys ++ xs) (sym (wraps_absent n ws k none)) ∙ so_far

-- from what is wrapped to what it was made of
pub walk_more : (ws : List Wrapped) (j n k : ℕ) (x : Wrapped) (bys whole : List ℕ) → j ≡ suc n → slice_get ws k ≡ Some x → bys ++ wraps_from j ws (Some k) ≡ whole
    → (bys ++ x.by ∷ []) ++ wraps_from n ws x.over ≡ whole
walk_more ws j n k x bys whole step e so_far =
    append_assoc bys (x.by ∷ []) (wraps_from n ws x.over)
    ∙ ap (λ xs. bys ++ xs) (sym (ap (λ i. wraps_from i ws (Some k)) step ∙ wraps_more n ws k x e))
    ∙ so_far
