-- Leaves that count at their paths, and lists of them.
use Rattle.std.proofs.Common.{◌≡◌, ◌⊎◌, ⊎_elim, inl, inr, ℕ, Bool, true, false, not, cond, List, [], ◌∷◌, Some, refl, sym, ap, ◌∙◌, subst}
use Rattle.std.specs.Prelude.{◌&&◌, ◌||◌, filter, Contains}
use Rattle.std.specs.List.{list_all}
use Rattle.std.proofs.lemmas.Bool.{false≢true}
use Rattle.lists.specs.Texts.{text_eq}
use Rattle.lists.proofs.TextLaws.{text_eq_true, text_eq_same}
use Rattle.design_ir.proofs.Elements.{contains_first, contains_more, contains_cases, contains_none, any_has}
use Rattle.lib_wiring.specs.declared.leaf.Leaf.{Leaf}
use Rattle.lib_wiring.specs.Wiring.{is_at, has_path, first_leaves, leaf_at}
use Rattle.lib_wiring.proofs.PlaceLaws.{text_eq_flipped}

-- ---- lists

all_has : {A : Type 0} (p : A → Bool) (x : A) (xs : List A) → (p x && list_all p xs) ≡ true → (p x ≡ true) × (list_all p xs ≡ true)
all_has p x xs e = by_test (p x) e
  where
    by_test : (b : Bool) → (b && list_all p xs) ≡ true → (b ≡ true) × (list_all p xs ≡ true)
    by_test true h = (refl, h)
    by_test false h = absurd (false≢true h)

pub all_at : {A : Type 0} (p : A → Bool) (xs : List A) → list_all p xs ≡ true → (x : A) → Contains xs x → p x ≡ true
all_at p [] e x c = absurd (contains_none x c)
all_at p (z ∷ xs) e x c = let h = all_has p z xs e in ⊎_elim (λ (same : z ≡ x). ap p (sym same) ∙ h.0) (λ (t : Contains xs x). all_at p xs h.1 x t) (contains_cases z x xs c)

pub all_from : {A : Type 0} (p : A → Bool) (xs : List A) → ((x : A) → Contains xs x → p x ≡ true) → list_all p xs ≡ true
all_from p [] h = refl
all_from p (z ∷ xs) h = ap (λ b. b && list_all p xs) (h z (contains_first z xs)) ∙ all_from p xs (λ x c. h x (contains_more z xs x c))

keeps_has : {A : Type 0} (p : A → Bool) (xs : List A) (x : A) → Contains xs x → p x ≡ true → Contains (filter p xs) x
keeps_has p [] x c e = absurd (contains_none x c)
keeps_has {A = A} p (z ∷ xs) x c e = by_test (p z) refl (contains_cases z x xs c) (λ t. keeps_has p xs x t e)
  where
    by_test : (b : Bool) → p z ≡ b → (z ≡ x) ⊎ Contains xs x → (Contains xs x → Contains (filter p xs) x) → Contains (cond b (z ∷ filter p xs) (filter p xs)) x
    by_test true t (inl same) later = subst (λ y. Contains (z ∷ filter p xs) y) same (contains_first z (filter p xs))
    by_test true t (inr more) later = contains_more z (filter p xs) x (later more)
    by_test false t (inl same) later = absurd (false≢true (sym t ∙ ap p same ∙ e))
    by_test false t (inr more) later = later more

keeps_of : {A : Type 0} (p : A → Bool) (xs : List A) (x : A) → Contains (filter p xs) x → Contains xs x × (p x ≡ true)
keeps_of p [] x c = absurd (contains_none x c)
keeps_of {A = A} p (z ∷ xs) x c = by_test (p z) refl c (λ (t : Contains (filter p xs) x). let r = keeps_of p xs x t in (contains_more z xs x r.0, r.1))
  where
    by_test : (b : Bool) → p z ≡ b → Contains (cond b (z ∷ filter p xs) (filter p xs)) x → (Contains (filter p xs) x → Contains (z ∷ xs) x × (p x ≡ true)) → Contains (z ∷ xs) x × (p x ≡ true)
    by_test true t h later = ⊎_elim (λ (same : z ≡ x). (subst (λ y. Contains (z ∷ xs) y) same (contains_first z xs), ap p (sym same) ∙ t)) later (contains_cases z x (filter p xs) h)
    by_test false t h later = later h

-- ---- the leaf at a path

pub path_of : (path : List ℕ) (ls : List Leaf) (l : Leaf) → leaf_at path ls ≡ Some l → l.path ≡ path
path_of path [] l e = cc
path_of path (z ∷ ls) l e = by_test (is_at path z) refl e (path_of path ls l)
  where
    by_test : (b : Bool) → is_at path z ≡ b → cond b (Some z) (leaf_at path ls) ≡ Some l → (leaf_at path ls ≡ Some l → l.path ≡ path) → l.path ≡ path
    by_test true t h later = let same : z ≡ l = cc in ap (λ (m : Leaf). m.path) (sym same) ∙ text_eq_true z.path path t
    by_test false t h later = later h

-- the leaf at a path, where one is
pub leaf_there : (path : List ℕ) (ls : List Leaf) → has_path path ls ≡ true → (l : Leaf) × (leaf_at path ls ≡ Some l)
leaf_there path [] e = absurd (false≢true e)
leaf_there path (z ∷ ls) e = by_test (is_at path z) e (leaf_there path ls)
  where
    by_test : (b : Bool) → (b || has_path path ls) ≡ true → (has_path path ls ≡ true → (l : Leaf) × (leaf_at path ls ≡ Some l)) → (l : Leaf) × (cond b (Some z) (leaf_at path ls) ≡ Some l)
    by_test true h later = (z, refl)
    by_test false h later = later h

pub path_there : (path : List ℕ) (ls : List Leaf) (l : Leaf) → leaf_at path ls ≡ Some l → has_path path ls ≡ true
path_there path [] l e = cc
path_there path (z ∷ ls) l e = by_test (is_at path z) e (path_there path ls l)
  where
    by_test : (b : Bool) → cond b (Some z) (leaf_at path ls) ≡ Some l → (leaf_at path ls ≡ Some l → has_path path ls ≡ true) → (b || has_path path ls) ≡ true
    by_test true h later = refl
    by_test false h later = later h

pub path_among : (ls : List Leaf) (l : Leaf) → Contains ls l → has_path l.path ls ≡ true
path_among ls l c = any_has (is_at l.path) ls l c (text_eq_same l.path)

-- ---- leaves that count

pub counts_at : (ls : List Leaf) (l : Leaf) → Contains (first_leaves ls) l → leaf_at l.path ls ≡ Some l
counts_at [] l c = absurd (contains_none l c)
counts_at (z ∷ ls) l c = ⊎_elim here (later (counts_at ls l)) (contains_cases z l (filter (λ m. not (is_at z.path m)) (first_leaves ls)) c)
  where
    here : z ≡ l → leaf_at l.path (z ∷ ls) ≡ Some l
    here same = subst (λ m. leaf_at m.path (z ∷ ls) ≡ Some m) same (ap (λ b. cond b (Some z) (leaf_at z.path ls)) (text_eq_same z.path))

    unlike : (b : Bool) → not b ≡ true → b ≡ false
    unlike true e = absurd (false≢true e)
    unlike false e = refl

    later : (Contains (first_leaves ls) l → leaf_at l.path ls ≡ Some l) → Contains (filter (λ m. not (is_at z.path m)) (first_leaves ls)) l → leaf_at l.path (z ∷ ls) ≡ Some l
    later known t =
        let r = keeps_of (λ m. not (is_at z.path m)) (first_leaves ls) l t in
        ap (λ b. cond b (Some z) (leaf_at l.path ls)) (text_eq_flipped z.path l.path ∙ unlike (is_at z.path l) r.1) ∙ known r.0

pub counting : (path : List ℕ) (ls : List Leaf) (l : Leaf) → leaf_at path ls ≡ Some l → Contains (first_leaves ls) l
counting path [] l e = cc
counting path (z ∷ ls) l e = by_test (is_at path z) refl e (counting path ls l)
  where
    by_test : (b : Bool) → is_at path z ≡ b → cond b (Some z) (leaf_at path ls) ≡ Some l → (leaf_at path ls ≡ Some l → Contains (first_leaves ls) l) → Contains (first_leaves (z ∷ ls)) l
    by_test true t h later =
        let same : z ≡ l = cc in
        subst (λ m. Contains (first_leaves (z ∷ ls)) m) same (contains_first z (filter (λ m. not (is_at z.path m)) (first_leaves ls)))
    by_test false t h later =
        let other : is_at z.path l ≡ false = text_eq_flipped l.path z.path ∙ ap (text_eq z.path) (path_of path ls l h) ∙ t in
        contains_more z (filter (λ m. not (is_at z.path m)) (first_leaves ls)) l (keeps_has (λ m. not (is_at z.path m)) (first_leaves ls) l (later h) (ap not other))
