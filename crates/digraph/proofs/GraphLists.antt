-- What stands at a place of a list, after an element was added at the end or replaced.
use Rattle.std.specs.List.{range_with_len}
use Rattle.std.proofs.Common.{◌≡◌, ◌≢◌, ◌⊎◌, inl, inr, ◌∙◌, ℕ, zero, suc, ◌+◌, ◌-◌, ◌≤◌, List, [], ◌∷◌, ◌++◌, length, refl, ap, arith, Some, slice_get, slice_set}

pub some-same : {X : Type 0} (x y : X) → Some x ≡ Some y → x ≡ y
some-same x y e = cc

pub get-push_kept : {X : Type 0} (xs : List X) (y x : X) (k : ℕ) → slice_get xs k ≡ Some x → slice_get (xs ++ y ∷ []) k ≡ Some x
get-push_kept [] y x k e = absurd cc
get-push_kept (z ∷ zs) y x zero e = e
get-push_kept (z ∷ zs) y x (suc k) e = get-push_kept zs y x k e

pub get-push_last : {X : Type 0} (xs : List X) (y : X) → slice_get (xs ++ y ∷ []) (length xs) ≡ Some y
get-push_last [] y = refl
get-push_last (z ∷ zs) y = get-push_last zs y

pub get-push_cases : {X : Type 0} (xs : List X) (y x : X) (k : ℕ) → slice_get (xs ++ y ∷ []) k ≡ Some x → (slice_get xs k ≡ Some x) ⊎ ((k ≡ length xs) × (y ≡ x))
get-push_cases [] y x zero e = inr (refl, cc)
get-push_cases [] y x (suc k) e = absurd cc
get-push_cases (z ∷ zs) y x zero e = inl e
get-push_cases (z ∷ zs) y x (suc k) e = elim (get-push_cases zs y x k e) [ inl h ↦ inl h | inr h ↦ inr (ap suc (h.0), h.1) ]

pub get-set_cases : {X : Type 0} (xs : List X) (i : ℕ) (y x : X) (k : ℕ) → slice_get (slice_set xs i y) k ≡ Some x → ((k ≡ i) × (y ≡ x)) ⊎ ((k ≢ i) × (slice_get xs k ≡ Some x))
get-set_cases [] i y x k e = absurd cc
get-set_cases (z ∷ zs) zero y x zero e = inl (refl, cc)
get-set_cases (z ∷ zs) zero y x (suc k) e = inr ((λ h. absurd (omega arith)), e)
get-set_cases (z ∷ zs) (suc i) y x zero e = inr ((λ h. absurd (omega arith)), e)
get-set_cases (z ∷ zs) (suc i) y x (suc k) e =
    elim (get-set_cases zs i y x k e) [ inl h ↦ inl (ap suc (h.0), h.1) | inr h ↦ inr ((λ q. h.0 (omega arith)), h.1) ]

pub nil_of_length : {X : Type 0} (xs : List X) → length xs ≡ 0 → xs ≡ []
nil_of_length [] h = refl
nil_of_length (x ∷ xs) h = absurd (omega (arith, h))

-- one number more
pub range_more : (a n : ℕ) → range_with_len a (suc n) ≡ range_with_len a n ++ (a + n) ∷ []
range_more a zero = ap (λ k. k ∷ []) (omega arith)
range_more a (suc n) =
    let next : a + 1 + n ≡ a + suc n = omega arith in
    ap (λ ks. a ∷ ks) (range_more (a + 1) n ∙ ap (λ k. range_with_len (a + 1) n ++ k ∷ []) next)

pub range_step : (a i : ℕ) → a ≤ i → range_with_len a (i + 1 - a) ≡ range_with_len a (i - a) ++ i ∷ []
range_step a i le =
    let n = i - a in
    let more : i + 1 - a ≡ suc n = omega arith in
    let last : a + n ≡ i = omega arith in
    ap (range_with_len a) more ∙ range_more a n ∙ ap (λ k. range_with_len a n ++ k ∷ []) last
