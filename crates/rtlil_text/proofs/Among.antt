-- Elements of a list, by recursion.
use Rattle.std.proofs.Common.{◌≡◌, ◌<◌, ◌⊎◌, ℕ, zero, suc, List, [], ◌∷◌, ◌++◌, map, length, get_or, ap, inl, inr, ⊎_elim, arith}
use Rattle.std.specs.Prelude.{Contains, Some, slice_get}
use Rattle.std.specs.List.{flat_map, AllByRecursion}

-- the list has this element
abbrev pub Among : {A : Type 0} → List A → A → Type 0
Among [] a = ⊥
Among (x ∷ xs) a = (x ≡ a) ⊎ Among xs a

at_place : {A : Type 0} (xs : List A) (k : ℕ) (a : A) → k < length xs → get_or xs k a ≡ a → Among xs a
at_place [] k a h e = absurd (omega arith)
at_place (x ∷ xs) zero a h e = inl e
at_place (x ∷ xs) (suc k) a h e = inr (at_place xs k a (omega arith) e)

pub Among-contains : {A : Type 0} (xs : List A) (a : A) → Contains xs a → Among xs a
Among-contains xs a h = at_place xs h.0 a h.1 h.2

pub Contains-among : {A : Type 0} (xs : List A) (a : A) → Among xs a → Contains xs a
Contains-among [] a h = absurd h
Contains-among (x ∷ xs) a h = ⊎_elim (λ e. (0, omega arith, e)) (λ later. let r = Contains-among xs a later in (suc r.0, omega (arith, r.1), r.2)) h

pub Among-slice_get : {A : Type 0} (xs : List A) (k : ℕ) (a : A) → slice_get xs k ≡ Some a → Among xs a
Among-slice_get [] k a e = cc
Among-slice_get (x ∷ xs) zero a e = inl (cc)
Among-slice_get (x ∷ xs) (suc k) a e = inr (Among-slice_get xs k a e)

pub Among-map : {A B : Type 0} (f : A → B) (xs : List A) (a : A) → Among xs a → Among (map f xs) (f a)
Among-map f [] a h = absurd h
Among-map f (x ∷ xs) a h = ⊎_elim (λ e. inl (ap f e)) (λ later. inr (Among-map f xs a later)) h

pub Among-left : {A : Type 0} (xs ys : List A) (a : A) → Among xs a → Among (xs ++ ys) a
Among-left [] ys a h = absurd h
Among-left (x ∷ xs) ys a h = ⊎_elim inl (λ later. inr (Among-left xs ys a later)) h

pub Among-right : {A : Type 0} (xs ys : List A) (a : A) → Among ys a → Among (xs ++ ys) a
Among-right [] ys a h = h
Among-right (x ∷ xs) ys a h = inr (Among-right xs ys a h)

pub Among-append : {A : Type 0} (xs ys : List A) (a : A) → Among (xs ++ ys) a → Among xs a ⊎ Among ys a
Among-append [] ys a h = inr h
Among-append (x ∷ xs) ys a h = ⊎_elim (λ e. inl (inl e)) (λ later. ⊎_elim (λ l. inl (inr l)) inr (Among-append xs ys a later)) h

pub Among-flat_map : {A B : Type 0} (f : A → List B) (xs : List A) (a : A) (b : B) → Among xs a → Among (f a) b → Among (flat_map f xs) b
Among-flat_map f [] a b h k = absurd h
Among-flat_map {A} {B} f (x ∷ xs) a b h k = ⊎_elim (λ e. Among-left (f x) (flat_map f xs) b (rw e k)) (λ later. Among-right (f x) (flat_map f xs) b (Among-flat_map f xs a b later k)) h

pub AllByRecursion-among : {A : Type 0} (P : A → Type 0) (xs : List A) (a : A) → AllByRecursion P xs → Among xs a → P a
AllByRecursion-among P [] a h k = absurd k
AllByRecursion-among P (x ∷ xs) a h k = ⊎_elim (λ e. rw e at h.0) (λ later. AllByRecursion-among P xs a h.1 later) k

pub AllByRecursion-append : {A : Type 0} (P : A → Type 0) (xs ys : List A) → AllByRecursion P xs → AllByRecursion P ys → AllByRecursion P (xs ++ ys)
AllByRecursion-append P [] ys h k = k
AllByRecursion-append P (x ∷ xs) ys h k = (h.0, AllByRecursion-append P xs ys h.1 k)
