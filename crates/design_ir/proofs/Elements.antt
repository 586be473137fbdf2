-- Elements of lists, and what stands at a place of one.
use Rattle.std.specs.Prelude.{◌≡◌, refl, ℕ, zero, suc, ◌+◌, ◌-◌, ◌<◌, ◌≤◌, ◌⊎◌, ◌||◌, Bool, true, false, List, [], ◌∷◌, ◌++◌, map, length, take, drop, slice_get, slice_index_or, Option, Some, None, Contains}
use Rattle.std.specs.List.{flat_map, filter_map, cons_option, list_any, range_with_len}
use Rattle.std.proofs.Common.{sym, ◌∙◌, ap, arith, subst, ⊎_elim, inl, inr}
use Rattle.std.proofs.lemmas.Bool.{false≢true, cases_eq}
use Rattle.std.proofs.lemmas.List.Elements.{Contains-append_left, Contains-append_right, Contains-append_cases}

-- ---- elements

pub some_is : {A : Type 0} (x y : A) → Some x ≡ Some y → x ≡ y
some_is x y e = cc

pub contains_first : {A : Type 0} (x : A) (xs : List A) → Contains (x ∷ xs) x
contains_first x xs = (0, omega arith, refl)

pub contains_more : {A : Type 0} (x : A) (xs : List A) (y : A) → Contains xs y → Contains (x ∷ xs) y
contains_more x xs y c = (suc c.0, omega (arith, c.1), c.2)

cases_at : {A : Type 0} (z x : A) (xs : List A) (k : ℕ) → k < length (z ∷ xs) → slice_index_or (z ∷ xs) k x ≡ x → (z ≡ x) ⊎ Contains xs x
cases_at z x xs zero lt h = inl h
cases_at z x xs (suc k) lt h = inr (k, omega (arith, lt), h)

pub contains_cases : {A : Type 0} (z x : A) (xs : List A) → Contains (z ∷ xs) x → (z ≡ x) ⊎ Contains xs x
contains_cases z x xs c = cases_at z x xs c.0 c.1 c.2

pub contains_none : {A : Type 0} (x : A) → Contains [] x → ⊥
contains_none x c = omega (arith, c.1)

pub map_has : {A B : Type 0} (f : A → B) (xs : List A) (x : A) → Contains xs x → Contains (map f xs) (f x)
map_has f [] x c = absurd (contains_none x c)
map_has f (z ∷ xs) x c =
    ⊎_elim (λ (e : z ≡ x). subst (λ y. Contains (f z ∷ map f xs) y) (ap f e) (contains_first (f z) (map f xs))) (λ (t : Contains xs x). contains_more (f z) (map f xs) (f x) (map_has f xs x t)) (contains_cases z x xs c)

pub map_of : {A B : Type 0} (f : A → B) (xs : List A) (y : B) → Contains (map f xs) y → (x : A) × Contains xs x × (f x ≡ y)
map_of f [] y c = absurd (contains_none y c)
map_of f (z ∷ xs) y c =
    ⊎_elim (λ (e : f z ≡ y). (z, contains_first z xs, e)) (λ (t : Contains (map f xs) y). let r = map_of f xs y t in (r.0, contains_more z xs r.0 r.1, r.2)) (contains_cases (f z) y (map f xs) c)

option_more : {B : Type 0} (o : Option B) (ys : List B) (y : B) → Contains ys y → Contains (cons_option o ys) y
option_more None ys y c = c
option_more (Some z) ys y c = contains_more z ys y c

option_first : {B : Type 0} (o : Option B) (ys : List B) (y : B) → o ≡ Some y → Contains (cons_option o ys) y
option_first None ys y e = cc
option_first (Some z) ys y e = let same : z ≡ y = cc in subst (λ x. Contains (z ∷ ys) x) same (contains_first z ys)

option_cases : {B : Type 0} (o : Option B) (ys : List B) (y : B) → Contains (cons_option o ys) y → (o ≡ Some y) ⊎ Contains ys y
option_cases None ys y c = inr c
option_cases (Some z) ys y c = ⊎_elim (λ (e : z ≡ y). inl (ap (λ v. Some v) e)) (λ t. inr t) (contains_cases z y ys c)

pub filter_has : {A B : Type 0} (f : A → Option B) (xs : List A) (x : A) (y : B) → Contains xs x → f x ≡ Some y → Contains (filter_map f xs) y
filter_has f [] x y c e = absurd (contains_none x c)
filter_has f (z ∷ xs) x y c e =
    ⊎_elim (λ (same : z ≡ x). option_first (f z) (filter_map f xs) y (ap f same ∙ e)) (λ (t : Contains xs x). option_more (f z) (filter_map f xs) y (filter_has f xs x y t e)) (contains_cases z x xs c)

pub filter_of : {A B : Type 0} (f : A → Option B) (xs : List A) (y : B) → Contains (filter_map f xs) y → (x : A) × Contains xs x × (f x ≡ Some y)
filter_of f [] y c = absurd (contains_none y c)
filter_of f (z ∷ xs) y c =
    ⊎_elim (λ (e : f z ≡ Some y). (z, contains_first z xs, e)) (λ (t : Contains (filter_map f xs) y). let r = filter_of f xs y t in (r.0, contains_more z xs r.0 r.1, r.2)) (option_cases (f z) (filter_map f xs) y c)

pub flat_has : {A B : Type 0} (f : A → List B) (xs : List A) (x : A) (y : B) → Contains xs x → Contains (f x) y → Contains (flat_map f xs) y
flat_has f [] x y c h = absurd (contains_none x c)
flat_has f (z ∷ xs) x y c h =
    ⊎_elim
    (λ (same : z ≡ x). Contains-append_left (f z) (flat_map f xs) y (subst (λ a. Contains (f a) y) (sym same) h))
    (λ (t : Contains xs x). Contains-append_right (f z) (flat_map f xs) y (flat_has f xs x y t h)) (contains_cases z x xs c)

pub flat_of : {A B : Type 0} (f : A → List B) (xs : List A) (y : B) → Contains (flat_map f xs) y → (x : A) × Contains xs x × Contains (f x) y
flat_of f [] y c = absurd (contains_none y c)
flat_of f (z ∷ xs) y c =
    ⊎_elim (λ (h : Contains (f z) y). (z, contains_first z xs, h)) (λ (t : Contains (flat_map f xs) y). let r = flat_of f xs y t in (r.0, contains_more z xs r.0 r.1, r.2)) (Contains-append_cases (f z) (flat_map f xs) y c)

or_first : (a b : Bool) → a ≡ true → (a || b) ≡ true
or_first true b e = refl
or_first false b e = absurd (false≢true e)

or_second : (a b : Bool) → b ≡ true → (a || b) ≡ true
or_second true b e = refl
or_second false b e = e

or_cases : (a b : Bool) → (a || b) ≡ true → (a ≡ true) ⊎ (b ≡ true)
or_cases true b e = inl refl
or_cases false b e = inr e

pub any_has : {A : Type 0} (p : A → Bool) (xs : List A) (x : A) → Contains xs x → p x ≡ true → list_any p xs ≡ true
any_has p [] x c e = absurd (contains_none x c)
any_has p (z ∷ xs) x c e =
    ⊎_elim (λ (same : z ≡ x). or_first (p z) (list_any p xs) (ap p same ∙ e)) (λ (t : Contains xs x). or_second (p z) (list_any p xs) (any_has p xs x t e)) (contains_cases z x xs c)

pub any_of : {A : Type 0} (p : A → Bool) (xs : List A) → list_any p xs ≡ true → (x : A) × Contains xs x × (p x ≡ true)
any_of p [] e = absurd (false≢true e)
any_of p (z ∷ xs) e =
    ⊎_elim (λ (h : p z ≡ true). (z, contains_first z xs, h)) (λ (t : list_any p xs ≡ true). let r = any_of p xs t in (r.0, contains_more z xs r.0 r.1, r.2)) (or_cases (p z) (list_any p xs) e)

pub range_has : (a n k : ℕ) → a ≤ k → k < a + n → Contains (range_with_len a n) k
range_has a zero k from upto = absurd (omega (arith, from, upto))
range_has a (suc n) k from upto =
    ⊎_elim
    (λ (e : a ≡ k). subst (λ x. Contains (a ∷ range_with_len (a + 1) n) x) e (contains_first a (range_with_len (a + 1) n)))
    (λ (other : a ≡ k → ⊥). contains_more a (range_with_len (a + 1) n) k (range_has (a + 1) n k (omega (arith, from, other)) (omega (arith, upto)))) (cases_eq a k)

pub range_of : (a n k : ℕ) → Contains (range_with_len a n) k → (a ≤ k) × (k < a + n)
range_of a zero k c = absurd (contains_none k c)
range_of a (suc n) k c =
    ⊎_elim (λ (e : a ≡ k). (omega (arith, e), omega (arith, e))) (λ (t : Contains (range_with_len (a + 1) n) k). let r = range_of (a + 1) n k t in (omega (arith, r.0), omega (arith, r.1))) (contains_cases a k (range_with_len (a + 1) n) c)

-- ---- places of lists

pub get_has : {A : Type 0} (xs : List A) (i : ℕ) (x : A) → slice_get xs i ≡ Some x → Contains xs x
get_has [] i x e = cc
get_has (y ∷ xs) zero x e = let same : y ≡ x = cc in subst (λ z. Contains (y ∷ xs) z) same (contains_first y xs)
get_has (y ∷ xs) (suc i) x e = contains_more y xs x (get_has xs i x e)

pub has_get : {A : Type 0} (xs : List A) (x : A) → Contains xs x → (i : ℕ) × (slice_get xs i ≡ Some x)
has_get [] x c = absurd (contains_none x c)
has_get (y ∷ xs) x c = ⊎_elim (λ (e : y ≡ x). (zero, ap (λ v. Some v) e)) (λ (t : Contains xs x). let r = has_get xs x t in (suc r.0, r.1)) (contains_cases y x xs c)

pub get_take_of : {A : Type 0} (n : ℕ) (xs : List A) (j : ℕ) (x : A) → slice_get (take n xs) j ≡ Some x → (j < n) × (slice_get xs j ≡ Some x)
get_take_of zero [] j x e = cc
get_take_of zero (y ∷ ys) j x e = cc
get_take_of (suc n) [] j x e = cc
get_take_of (suc n) (y ∷ ys) zero x e = (omega arith, e)
get_take_of (suc n) (y ∷ ys) (suc j) x e = let r = get_take_of n ys j x e in (omega (arith, r.0), r.1)

pub get_take : {A : Type 0} (n : ℕ) (xs : List A) (j : ℕ) (x : A) → j < n → slice_get xs j ≡ Some x → slice_get (take n xs) j ≡ Some x
get_take zero xs j x h e = absurd (omega (arith, h))
get_take (suc n) [] j x h e = cc
get_take (suc n) (y ∷ ys) zero x h e = e
get_take (suc n) (y ∷ ys) (suc j) x h e = get_take n ys j x (omega (arith, h)) e

pub get_drop : {A : Type 0} (n : ℕ) (xs : List A) (j : ℕ) → slice_get (drop n xs) j ≡ slice_get xs (n + j)
get_drop zero [] j = refl
get_drop zero (y ∷ ys) j = ap (slice_get (y ∷ ys)) (let e : j ≡ 0 + j = omega arith in e)
get_drop (suc n) [] j = refl
get_drop (suc n) (y ∷ ys) j = get_drop n ys j ∙ ap (slice_get (y ∷ ys)) (let e : suc (n + j) ≡ suc n + j = omega arith in e)

pub get_append_cases : {A : Type 0} (xs ys : List A) (j : ℕ) (x : A) → slice_get (xs ++ ys) j ≡ Some x → (slice_get xs j ≡ Some x) ⊎ ((length xs ≤ j) × (slice_get ys (j - length xs) ≡ Some x))
get_append_cases [] ys j x e = inr (omega arith, ap (slice_get ys) (let i : j - 0 ≡ j = omega arith in i) ∙ e)
get_append_cases (y ∷ xs) ys zero x e = inl e
get_append_cases (y ∷ xs) ys (suc j) x e =
    ⊎_elim (λ h. inl h) (λ h. inr (omega (arith, h.0), ap (slice_get ys) (let i : suc j - suc (length xs) ≡ j - length xs = omega arith in i) ∙ h.1)) (get_append_cases xs ys j x e)

pub get_append_left : {A : Type 0} (xs ys : List A) (j : ℕ) (x : A) → slice_get xs j ≡ Some x → slice_get (xs ++ ys) j ≡ Some x
get_append_left [] ys j x e = cc
get_append_left (y ∷ xs) ys zero x e = e
get_append_left (y ∷ xs) ys (suc j) x e = get_append_left xs ys j x e

pub get_append_right : {A : Type 0} (xs ys : List A) (j : ℕ) → slice_get (xs ++ ys) (length xs + j) ≡ slice_get ys j
get_append_right [] ys j = ap (slice_get ys) (let i : 0 + j ≡ j = omega arith in i)
get_append_right (y ∷ xs) ys j = ap (slice_get (y ∷ (xs ++ ys))) (let i : suc (length xs) + j ≡ suc (length xs + j) = omega arith in i) ∙ get_append_right xs ys j
