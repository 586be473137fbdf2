-- Elements of lists.
use Rattle.std.proofs.Common.{◌≡◌, ◌⊎◌, inl, inr, ℕ, zero, suc, ◌+◌, ◌<◌, Bool, true, List, [], ◌∷◌, ◌++◌, map, length, take, Some, slice_get, slice_index_or, refl, sym, ap, ◌∙◌, subst, arith}
use Rattle.std.specs.List.{Contains, list_all}
use Rattle.std.proofs.lemmas.Bool.{and_parts, and_from}
use Rattle.design_ir.specs.declared.ids.ExprId.{ExprId}
use Rattle.design_ir.specs.Named.{AllBelow}

pub contains-more : {A : Type 0} (x : A) (xs : List A) (y : A) → Contains xs y → Contains (x ∷ xs) y
contains-more x xs y c = (suc c.0, omega (arith, c.1), c.2)

pub contains-first : {A : Type 0} (x : A) (xs : List A) → Contains (x ∷ xs) x
contains-first x xs = (0, omega arith, refl)

pub contains-cases : {A : Type 0} (y x : A) (xs : List A) → Contains (y ∷ xs) x → (y ≡ x) ⊎ Contains xs x
contains-cases y x xs (zero, below, is) = inl is
contains-cases y x xs (suc k, below, is) = inr (k, omega (arith, below), is)

pub contains-left : {A : Type 0} (xs ys : List A) (x : A) → Contains xs x → Contains (xs ++ ys) x
contains-left [] ys x c = absurd (omega (arith, c.1))
contains-left (y ∷ xs) ys x c = elim (contains-cases y x xs c) [ inl same ↦ subst (λ z. Contains (y ∷ (xs ++ ys)) z) same (contains-first y (xs ++ ys)) | inr in' ↦ contains-more y (xs ++ ys) x (contains-left xs ys x in') ]

pub contains-right : {A : Type 0} (xs ys : List A) (x : A) → Contains ys x → Contains (xs ++ ys) x
contains-right [] ys x c = c
contains-right (y ∷ xs) ys x c = contains-more y (xs ++ ys) x (contains-right xs ys x c)

pub contains-split : {A : Type 0} (xs ys : List A) (x : A) → Contains (xs ++ ys) x → Contains xs x ⊎ Contains ys x
contains-split [] ys x c = inr c
contains-split (y ∷ xs) ys x c =
    elim (contains-cases y x (xs ++ ys) c) [
      | inl same ↦ inl (subst (λ z. Contains (y ∷ xs) z) same (contains-first y xs))
      | inr in' ↦ elim (contains-split xs ys x in') [ inl l ↦ inl (contains-more y xs x l) | inr r ↦ inr r ]
    ]

pub contains-one : {A : Type 0} (y x : A) → Contains (y ∷ []) x → y ≡ x
contains-one y x c = elim (contains-cases y x [] c) [ inl same ↦ same | inr in' ↦ absurd (omega (arith, in'.1)) ]

pub take-push : {X : Type 0} (xs : List X) (i : ℕ) (x : X) → slice_get xs i ≡ Some x → take (i + 1) xs ≡ take i xs ++ x ∷ []
take-push xs i x at = let next : i + 1 ≡ suc i = omega arith in ap (λ n. take n xs) next ∙ push xs i x at
  where
    push : {X : Type 0} (xs : List X) (i : ℕ) (x : X) → slice_get xs i ≡ Some x → take (suc i) xs ≡ take i xs ++ x ∷ []
    push [] i x at = cc
    push (y ∷ xs) zero x at = let same : y ≡ x = cc in ap (λ z. z ∷ []) same
    push (y ∷ xs) (suc i) x at = ap (λ zs. y ∷ zs) (push xs i x at)

pub map-push : {A B : Type 0} (f : A → B) (xs : List A) (x : A) → map f (xs ++ x ∷ []) ≡ map f xs ++ f x ∷ []
map-push f [] x = refl
map-push f (y ∷ xs) x = ap (λ zs. f y ∷ zs) (map-push f xs x)

pub below_at : (n : ℕ) (es : List ExprId) (i : ℕ) (d : ExprId) → AllBelow n es → i < length es → (slice_index_or es i d).0 < n
below_at n [] i d h in' = absurd (omega (arith, in'))
below_at n (e ∷ es) zero d h in' = h.0
below_at n (e ∷ es) (suc i) d h in' = below_at n es i d h.1 (omega (arith, in'))

pub below_has : (n : ℕ) (es : List ExprId) (k : ℕ) → AllBelow n es → Contains (map (λ (e : ExprId). e.0) es) k → k < n
below_has n [] k h c = absurd (omega (arith, c.1))
below_has n (e ∷ es) k h c = elim (contains-cases e.0 k (map (λ (e : ExprId). e.0) es) c) [ inl same ↦ omega (arith, same, h.0) | inr in' ↦ below_has n es k h.1 in' ]

pub below_from : (n : ℕ) (es : List ExprId) → ((k : ℕ) → Contains (map (λ (e : ExprId). e.0) es) k → k < n) → AllBelow n es
below_from n [] h = tt
below_from n (e ∷ es) h = (h e.0 (contains-first e.0 (map (λ (e : ExprId). e.0) es)), below_from n es (λ k c. h k (contains-more e.0 (map (λ (e : ExprId). e.0) es) k c)))

pub all_has : (f : ℕ → Bool) (es : List ExprId) (k : ℕ) → list_all (λ (e : ExprId). f e.0) es ≡ true → Contains (map (λ (e : ExprId). e.0) es) k → f k ≡ true
all_has f [] k h c = absurd (omega (arith, c.1))
all_has f (e ∷ es) k h c =
    let parts = and_parts (f e.0) (list_all (λ (e : ExprId). f e.0) es) h in
    elim (contains-cases e.0 k (map (λ (e : ExprId). e.0) es) c) [ inl same ↦ ap f (sym same) ∙ parts.0 | inr in' ↦ all_has f es k parts.1 in' ]

pub all_from : (f : ℕ → Bool) (es : List ExprId) → ((k : ℕ) → Contains (map (λ (e : ExprId). e.0) es) k → f k ≡ true) → list_all (λ (e : ExprId). f e.0) es ≡ true
all_from f [] h = refl
all_from f (e ∷ es) h =
    and_from (f e.0) (list_all (λ (e : ExprId). f e.0) es) (h e.0 (contains-first e.0 (map (λ (e : ExprId). e.0) es)))
    (all_from f es (λ k c. h k (contains-more e.0 (map (λ (e : ExprId). e.0) es) k c)))
