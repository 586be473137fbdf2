-- Lists, element by element.
use Rattle.std.proofs.Common.{◌≡◌, ℕ, zero, suc, ◌+◌, ◌<◌, ◌≤◌, Bool, true, false, not, ◌||◌, cond, All, List, [], ◌∷◌, ◌++◌, map, length, take, drop, Some, slice_get, slice_index_or, refl, sym, ap, ◌∙◌, subst, arith}
use Rattle.std.specs.List.{AllByRecursion, IsDistinct, filter, list_any}
use Rattle.std.proofs.lemmas.List.Elements.{All-nil, All-cons}
use Rattle.std.proofs.lemmas.Bool.{false≢true}
use Rattle.design_ir.specs.declared.ids.ExprId.{ExprId}
use Rattle.design_ir.specs.Named.{AllBelow}
use Rattle.fragment_walks.specs.Marks.{numbers}

pub take-push : {X : Type 0} (xs : List X) (i : ℕ) (x : X) → slice_get xs i ≡ Some x → take (i + 1) xs ≡ take i xs ++ x ∷ []
take-push xs i x at = let next : i + 1 ≡ suc i = omega arith in ap (λ n. take n xs) next ∙ push xs i x at
  where
    push : {X : Type 0} (xs : List X) (i : ℕ) (x : X) → slice_get xs i ≡ Some x → take (suc i) xs ≡ take i xs ++ x ∷ []
    push [] i x at = cc
    push (y ∷ xs) zero x at = let same : y ≡ x = cc in ap (λ z. z ∷ []) same
    push (y ∷ xs) (suc i) x at = ap (λ zs. y ∷ zs) (push xs i x at)

pub take_end : {X : Type 0} (xs : List X) (i : ℕ) → length xs ≤ i → take i xs ≡ xs
take_end [] i e = none i
  where
    none : {X : Type 0} (i : ℕ) → take {A = X} i [] ≡ []
    none zero = refl
    none (suc i) = refl
take_end (x ∷ xs) zero e = absurd (omega (arith, e))
take_end (x ∷ xs) (suc i) e = ap (λ ys. x ∷ ys) (take_end xs i (omega (arith, e)))

pub take_length : {X : Type 0} (xs : List X) (i : ℕ) (x : X) → slice_get xs i ≡ Some x → length (take i xs) ≡ i
take_length [] i x e = cc
take_length (y ∷ xs) zero x e = refl
take_length (y ∷ xs) (suc i) x e = ap suc (take_length xs i x e)

pub take_and_drop : {X : Type 0} (xs : List X) (i : ℕ) → xs ≡ take i xs ++ drop i xs
take_and_drop xs zero = refl
take_and_drop [] (suc i) = refl
take_and_drop (x ∷ xs) (suc i) = ap (λ ys. x ∷ ys) (take_and_drop xs i)

pub map-push : {A B : Type 0} (f : A → B) (xs : List A) (x : A) → map f (xs ++ x ∷ []) ≡ map f xs ++ f x ∷ []
map-push f [] x = refl
map-push f (y ∷ xs) x = ap (λ zs. f y ∷ zs) (map-push f xs x)

pub map-append : {A B : Type 0} (f : A → B) (xs ys : List A) → map f (xs ++ ys) ≡ map f xs ++ map f ys
map-append f [] ys = refl
map-append f (x ∷ xs) ys = ap (λ zs. f x ∷ zs) (map-append f xs ys)

pub map_map : {A B C : Type 0} (f : A → B) (g : B → C) (xs : List A) → map g (map f xs) ≡ map (λ x. g (f x)) xs
map_map f g [] = refl
map_map f g (x ∷ xs) = ap (λ ys. g (f x) ∷ ys) (map_map f g xs)

pub map_agree : {A B : Type 0} (f g : A → B) → ((x : A) → f x ≡ g x) → (xs : List A) → map f xs ≡ map g xs
map_agree f g h [] = refl
map_agree f g h (x ∷ xs) = let a = h x in let b = map_agree f g h xs in cc

pub length_map : {A B : Type 0} (f : A → B) (xs : List A) → length (map f xs) ≡ length xs
length_map f [] = refl
length_map f (x ∷ xs) = ap suc (length_map f xs)

-- ---- what holds of each

pub all_imp : {A : Type 0} {P Q : A → Type 0} (f : (x : A) → P x → Q x) (xs : List A) → AllByRecursion P xs → AllByRecursion Q xs
all_imp f [] h = tt
all_imp f (x ∷ xs) h = (f x h.0, all_imp f xs h.1)

pub all_both : {A : Type 0} {P Q R : A → Type 0} (f : (x : A) → P x → Q x → R x) (xs : List A) → AllByRecursion P xs → AllByRecursion Q xs → AllByRecursion R xs
all_both f [] h k = tt
all_both f (x ∷ xs) h k = (f x h.0 k.0, all_both f xs h.1 k.1)

pub all_joined : {A : Type 0} (P : A → Type 0) (xs ys : List A) → AllByRecursion P xs → AllByRecursion P ys → AllByRecursion P (xs ++ ys)
all_joined P [] ys h k = k
all_joined P (x ∷ xs) ys h k = (h.0, all_joined P xs ys h.1 k)

pub all_left : {A : Type 0} (P : A → Type 0) (xs ys : List A) → AllByRecursion P (xs ++ ys) → AllByRecursion P xs
all_left P [] ys h = tt
all_left P (x ∷ xs) ys h = (h.0, all_left P xs ys h.1)

pub all_taken : {A : Type 0} (P : A → Type 0) (xs : List A) (i : ℕ) → AllByRecursion P xs → AllByRecursion P (take i xs)
all_taken P xs i h = all_left P (take i xs) (drop i xs) (subst (AllByRecursion P) (take_and_drop xs i) h)

pub all_right : {A : Type 0} (P : A → Type 0) (xs ys : List A) → AllByRecursion P (xs ++ ys) → AllByRecursion P ys
all_right P [] ys h = h
all_right P (x ∷ xs) ys h = all_right P xs ys h.1

pub all_mapped : {A B : Type 0} (P : B → Type 0) (f : A → B) (xs : List A) → AllByRecursion (λ x. P (f x)) xs → AllByRecursion P (map f xs)
all_mapped P f [] h = tt
all_mapped P f (x ∷ xs) h = (h.0, all_mapped P f xs h.1)

pub all_unmapped : {A B : Type 0} (P : B → Type 0) (f : A → B) (xs : List A) → AllByRecursion P (map f xs) → AllByRecursion (λ x. P (f x)) xs
all_unmapped P f [] h = tt
all_unmapped P f (x ∷ xs) h = (h.0, all_unmapped P f xs h.1)

pub all_at : {A : Type 0} (P : A → Type 0) (xs : List A) (i : ℕ) (x : A) → AllByRecursion P xs → slice_get xs i ≡ Some x → P x
all_at P [] i x h e = cc
all_at P (y ∷ xs) zero x h e = let same : y ≡ x = cc in subst P same h.0
all_at P (y ∷ xs) (suc i) x h e = all_at P xs i x h.1 e

pub all_index : {A : Type 0} (P : A → Type 0) (xs : List A) → AllByRecursion P xs → All P xs
all_index P [] h = All-nil P
all_index P (x ∷ xs) h = All-cons P x xs h.0 (all_index P xs h.1)

-- ---- those that pass

pub not_true : (b : Bool) → not b ≡ true → b ≡ false
not_true true e = absurd (false≢true e)
not_true false e = refl

pub all_filtered : {A : Type 0} (P : A → Type 0) (p : A → Bool) (xs : List A) → AllByRecursion P xs → AllByRecursion P (filter p xs)
all_filtered P p [] h = tt
all_filtered P p (x ∷ xs) h = split (all_filtered P p xs h.1) (p x)
  where
    split : AllByRecursion P (filter p xs) → (b : Bool) → AllByRecursion P (cond b (x ∷ filter p xs) (filter p xs))
    split rest true = (h.0, rest)
    split rest false = rest

pub passes : {A : Type 0} (p : A → Bool) (xs : List A) → AllByRecursion (λ x. p x ≡ true) (filter p xs)
passes p [] = tt
passes p (x ∷ xs) = split (passes p xs) (p x) refl
  where
    split : AllByRecursion (λ x. p x ≡ true) (filter p xs) → (b : Bool) → p x ≡ b → AllByRecursion (λ x. p x ≡ true) (cond b (x ∷ filter p xs) (filter p xs))
    split rest true e = (e, rest)
    split rest false e = rest

pub distinct_filter : {A : Type 0} (eq : A → A → Bool) (p : A → Bool) (xs : List A) → IsDistinct eq xs → IsDistinct eq (filter p xs)
unfolding IsDistinct
distinct_filter eq p [] h = tt
distinct_filter eq p (x ∷ xs) h = split (all_filtered (λ y. eq x y ≡ false) p xs h.0) (distinct_filter eq p xs h.1) (p x)
  where
    split : AllByRecursion (λ y. eq x y ≡ false) (filter p xs) → IsDistinct eq (filter p xs) → (b : Bool) → IsDistinct eq (cond b (x ∷ filter p xs) (filter p xs))
    split apart rest true = (apart, rest)
    split apart rest false = rest

-- ---- some element passes

pub or_false : (a : Bool) → (a || false) ≡ a
or_false true = refl
or_false false = refl

pub or_assoc : (a b c : Bool) → ((a || b) || c) ≡ (a || (b || c))
or_assoc true b c = refl
or_assoc false b c = refl

pub any-append : {A : Type 0} (p : A → Bool) (xs ys : List A) → list_any p (xs ++ ys) ≡ (list_any p xs || list_any p ys)
any-append p [] ys = refl
any-append p (x ∷ xs) ys = ap (λ b. p x || b) (any-append p xs ys) ∙ sym (or_assoc (p x) (list_any p xs) (list_any p ys))

pub any_agree : {A : Type 0} (p q : A → Bool) (xs : List A) → AllByRecursion (λ x. p x ≡ q x) xs → list_any p xs ≡ list_any q xs
any_agree p q [] h = refl
any_agree p q (x ∷ xs) h = let a = h.0 in let b = any_agree p q xs h.1 in cc

pub any_all : {A : Type 0} (p q : A → Bool) (xs : List A) → ((x : A) → p x ≡ q x) → list_any p xs ≡ list_any q xs
any_all p q [] h = refl
any_all p q (x ∷ xs) h = let a = h x in let b = any_all p q xs h in cc

pub any_map : {A B : Type 0} (p : B → Bool) (f : A → B) (xs : List A) → list_any p (map f xs) ≡ list_any (λ x. p (f x)) xs
any_map p f [] = refl
any_map p f (x ∷ xs) = ap (λ b. p (f x) || b) (any_map p f xs)

pub any_none : {A : Type 0} (p : A → Bool) (xs : List A) → AllByRecursion (λ x. p x ≡ false) xs → list_any p xs ≡ false
any_none p [] h = refl
any_none p (x ∷ xs) h = ap (λ b. b || list_any p xs) h.0 ∙ any_none p xs h.1

pub or_none : (a b : Bool) → (a || b) ≡ false → (a ≡ false) × (b ≡ false)
or_none true b h = absurd (false≢true (sym h))
or_none false b h = (refl, h)

pub none_any : {A : Type 0} (p : A → Bool) (xs : List A) → list_any p xs ≡ false → AllByRecursion (λ x. p x ≡ false) xs
none_any p [] h = tt
none_any p (x ∷ xs) h = let parts = or_none (p x) (list_any p xs) h in (parts.0, none_any p xs parts.1)

-- ---- expressions below a number

pub below_split : (n : ℕ) (xs ys : List ExprId) → AllBelow n (xs ++ ys) → AllBelow n xs × AllBelow n ys
below_split n [] ys h = (tt, h)
below_split n (x ∷ xs) ys h = let more = below_split n xs ys h.1 in ((h.0, more.0), more.1)

pub below_at : (n : ℕ) (es : List ExprId) (i : ℕ) (d : ExprId) → AllBelow n es → i < length es → (slice_index_or es i d).0 < n
below_at n [] i d h in' = absurd (omega (arith, in'))
below_at n (e ∷ es) zero d h in' = h.0
below_at n (e ∷ es) (suc i) d h in' = below_at n es i d h.1 (omega (arith, in'))

pub below_wider : (m n : ℕ) (es : List ExprId) → m ≤ n → AllBelow m es → AllBelow n es
below_wider m n [] le h = tt
below_wider m n (e ∷ es) le h = (omega (arith, h.0, le), below_wider m n es le h.1)

pub below_all : (n : ℕ) (es : List ExprId) → AllBelow n es → AllByRecursion (λ k. k < n) (numbers es)
below_all n [] h = tt
below_all n (e ∷ es) h = (h.0, below_all n es h.1)
