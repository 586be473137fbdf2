-- Where the leaves of an interface stand, and which of them count.
use Rattle.std.proofs.Common.{◌≡◌, ℕ, zero, suc, ◌+◌, ◌-◌, ◌<◌, ◌≤◌, Bool, true, false, not, cond, List, [], ◌∷◌, ◌++◌, length, take, get_or, Option, Some, None, refl, sym, ap, ◌∙◌, subst, arith}
use Rattle.std.specs.Prelude.{◌&&◌, ◌||◌, is_some, filter, find, slice_index_or}
use Rattle.std.specs.List.{list_any, filter_map, cons_option, position_from}
use Rattle.std.proofs.lemmas.Bool.{false≢true}
use Rattle.std.proofs.lemmas.List.Folds.{list_any-append}
use Rattle.lists.specs.Texts.{text_eq}
use Rattle.lists.proofs.TextLaws.{text_eq_true, text_eq_same}
use Rattle.lib_wiring.specs.declared.leaf.Leaf.{Leaf}
use Rattle.lib_wiring.specs.Wiring.{is_at, has_path, are_apart, first_leaves}
use Rattle.lib_wiring.specs.Places.{is_place}

-- ---- places

-- what is found stands at its place
pub record Placed {A : Type 0} (p : A → Bool) (xs : List A) (n j : ℕ) : Type 0 where
  pub from : n ≤ j
  pub within : j < n + length xs
  pub found : (d : A) → find p xs ≡ Some (slice_index_or xs (j - n) d)

here : {A : Type 0} (x : A) (xs : List A) (d : A) (i : ℕ) → i ≡ 0 → Some x ≡ Some (slice_index_or (x ∷ xs) i d)
here x xs d zero z = refl
here x xs d (suc i) z = absurd (omega (arith, z))

more : {A : Type 0} (o : Option A) (x : A) (xs : List A) (d : A) (i k : ℕ) → i ≡ suc k → o ≡ Some (slice_index_or xs k d) → o ≡ Some (slice_index_or (x ∷ xs) i d)
more o x xs d zero k z h = absurd (omega (arith, z))
more o x xs d (suc i) k z h = h ∙ ap (λ m. Some (slice_index_or xs m d)) (let same : k ≡ i = omega (arith, z) in same)

pub placed : {A : Type 0} (p : A → Bool) (xs : List A) (n j : ℕ) → position_from p n xs ≡ Some j → Placed p xs n j
placed p [] n j e = cc
placed {A = A} p (x ∷ xs) n j e = by_test (p x) refl e (placed p xs (n + 1) j)
  where
    by_test : (b : Bool) → p x ≡ b → cond b (Some n) (position_from p (n + 1) xs) ≡ Some j → (position_from p (n + 1) xs ≡ Some j → Placed p xs (n + 1) j) → Placed p (x ∷ xs) n j
    by_test true t h later =
        let same : n ≡ j = cc in
        record { from = omega (arith, same); within = omega (arith, same); found = λ d. ap (λ b. cond b (Some x) (find p xs)) t ∙ here x xs d (j - n) (omega (arith, same)) }
    by_test false t h later =
        let r = later h in
        record {
          from = omega (arith, r.from);
          within = omega (arith, r.within);
          found = λ d. ap (λ b. cond b (Some x) (find p xs)) t ∙ more (find p xs) x xs d (j - n) (j - (n + 1)) (omega (arith, r.from)) (r.found d);
        }

pub placed_nowhere : {A : Type 0} (p : A → Bool) (xs : List A) (n : ℕ) → position_from p n xs ≡ None → find p xs ≡ None
placed_nowhere p [] n e = refl
placed_nowhere {A = A} p (x ∷ xs) n e = by_test (p x) refl e (placed_nowhere p xs (n + 1))
  where
    by_test : (b : Bool) → p x ≡ b → cond b (Some n) (position_from p (n + 1) xs) ≡ None → (position_from p (n + 1) xs ≡ None → find p xs ≡ None) → cond (p x) (Some x) (find p xs) ≡ None
    by_test true t h later = cc
    by_test false t h later = ap (λ b. cond b (Some x) (find p xs)) t ∙ later h

pub placed_where : {A : Type 0} (p : A → Bool) (xs : List A) (n : ℕ) → is_some (position_from p n xs) ≡ list_any p xs
placed_where p [] n = refl
placed_where {A = A} p (x ∷ xs) n = by_test (p x) (placed_where p xs (n + 1))
  where
    by_test : (b : Bool) → is_some (position_from p (n + 1) xs) ≡ list_any p xs → is_some (cond b (Some n) (position_from p (n + 1) xs)) ≡ (b || list_any p xs)
    by_test true later = refl
    by_test false later = later

-- an element stands at the place of the first exactly where none before it passes
pub is_place_first : {A : Type 0} (p : A → Bool) (xs : List A) (n i : ℕ) (d : A) → i < length xs → p (get_or xs i d) ≡ true → is_place (n + i) (position_from p n xs) ≡ not (list_any p (take i xs))
is_place_first p [] n i d lt t = absurd (omega (arith, lt))
is_place_first p (x ∷ xs) n zero d lt t = ap (λ b. is_place (n + 0) (cond b (Some n) (position_from p (n + 1) xs))) t ∙ grind arith
is_place_first {A = A} p (x ∷ xs) n (suc i) d lt t =
    by_test (p x) (ap (λ m. is_place m (position_from p (n + 1) xs)) (let e : n + suc i ≡ n + 1 + i = omega arith in e) ∙ is_place_first p xs (n + 1) i d (omega (arith, lt)) t)
  where
    by_test : (b : Bool) → is_place (n + suc i) (position_from p (n + 1) xs) ≡ not (list_any p (take i xs)) → is_place (n + suc i) (cond b (Some n) (position_from p (n + 1) xs)) ≡ not (b || list_any p (take i xs))
    by_test true later = grind arith
    by_test false later = later

-- ---- leaves that count

pub bool_same : (a b : Bool) → (a ≡ true → b ≡ true) → (b ≡ true → a ≡ true) → a ≡ b
bool_same true b into only = sym (into refl)
bool_same false true into only = only refl
bool_same false false into only = refl

pub text_eq_flipped : (a b : List ℕ) → text_eq a b ≡ text_eq b a
text_eq_flipped a b =
    bool_same (text_eq a b) (text_eq b a) (λ h. subst (λ x. text_eq x a ≡ true) (text_eq_true a b h) (text_eq_same a)) (λ h. subst (λ x. text_eq x b ≡ true) (text_eq_true b a h) (text_eq_same b))

filter-append : {A : Type 0} (p : A → Bool) (xs ys : List A) → filter p (xs ++ ys) ≡ filter p xs ++ filter p ys
filter-append p [] ys = refl
filter-append {A = A} p (x ∷ xs) ys = by_test (p x) (filter-append p xs ys)
  where
    by_test : (b : Bool) → filter p (xs ++ ys) ≡ filter p xs ++ filter p ys → cond b (x ∷ filter p (xs ++ ys)) (filter p (xs ++ ys)) ≡ cond b (x ∷ filter p xs) (filter p xs) ++ filter p ys
    by_test true later = ap (λ zs. x ∷ zs) later
    by_test false later = later

pub filter_map-append : {A B : Type 0} (f : A → Option B) (xs ys : List A) → filter_map f (xs ++ ys) ≡ filter_map f xs ++ filter_map f ys
filter_map-append f [] ys = refl
filter_map-append {A = A} {B = B} f (x ∷ xs) ys = by_option (f x) (filter_map-append f xs ys)
  where
    by_option : (o : Option B) → filter_map f (xs ++ ys) ≡ filter_map f xs ++ filter_map f ys → cons_option o (filter_map f (xs ++ ys)) ≡ cons_option o (filter_map f xs) ++ filter_map f ys
    by_option None later = later
    by_option (Some z) later = ap (λ zs. z ∷ zs) later

-- one leaf more counts where its path is new
pub first_leaves-push : (ls : List Leaf) (x : Leaf) → first_leaves (ls ++ x ∷ []) ≡ first_leaves ls ++ cond (has_path x.path ls) [] (x ∷ [])
first_leaves-push [] x = refl
first_leaves-push (l ∷ ls) x = ap (λ ms. l ∷ filter other ms) (first_leaves-push ls x) ∙ ap (λ ms. l ∷ ms) (filter-append other (first_leaves ls) (cond (has_path x.path ls) [] (x ∷ [])) ∙ ap (λ ms. filter other (first_leaves ls) ++ ms) kept)
  where
    other : Leaf → Bool
    other = λ m. not (is_at l.path m)

    kept : filter other (cond (has_path x.path ls) [] (x ∷ [])) ≡ cond (is_at x.path l || has_path x.path ls) [] (x ∷ [])
    kept = by_test (has_path x.path ls)
      where
        seen : (t : Bool) → [] ≡ cond (t || true) [] (x ∷ [])
        seen true = refl
        seen false = refl

        new : (t : Bool) → cond (not t) (x ∷ []) [] ≡ cond (t || false) [] (x ∷ [])
        new true = refl
        new false = refl

        by_test : (b : Bool) → filter other (cond b [] (x ∷ [])) ≡ cond (is_at x.path l || b) [] (x ∷ [])
        by_test true = seen (is_at x.path l)
        by_test false = ap (λ t. cond (not t) (x ∷ []) []) (text_eq_flipped x.path l.path) ∙ new (is_at x.path l)

-- ---- paths that stand once

-- one leaf more stands apart where its path is new
pub are_apart-push : (ls : List Leaf) (x : Leaf) → are_apart (ls ++ x ∷ []) ≡ (are_apart ls && not (has_path x.path ls))
are_apart-push [] x = refl
are_apart-push (l ∷ ls) x =
    ap (λ b. not b && are_apart (ls ++ x ∷ [])) (list_any-append (is_at l.path) ls (x ∷ []))
    ∙ ap (λ b. not (has_path l.path ls || (is_at l.path x || false)) && b) (are_apart-push ls x)
    ∙ ap (λ b. not (has_path l.path ls || (b || false)) && (are_apart ls && not (has_path x.path ls))) (text_eq_flipped x.path l.path)
    ∙ both (has_path l.path ls) (is_at x.path l) (are_apart ls) (has_path x.path ls)
  where
    both : (p q r t : Bool) → (not (p || (q || false)) && (r && not t)) ≡ ((not p && r) && not (q || t))
    both true q r t = refl
    both false true true t = refl
    both false true false t = refl
    both false false true t = refl
    both false false false t = refl

-- what does not stand apart never does before others
pub are_apart-front : (xs ys : List Leaf) → are_apart xs ≡ false → are_apart (xs ++ ys) ≡ false
are_apart-front [] ys e = absurd (false≢true (sym e))
are_apart-front (l ∷ xs) ys e =
    ap (λ b. not b && are_apart (xs ++ ys)) (list_any-append (is_at l.path) xs ys) ∙ by_tests (has_path l.path xs) (has_path l.path ys) (are_apart xs) (are_apart (xs ++ ys)) e (are_apart-front xs ys)
  where
    by_tests : (p q r t : Bool) → (not p && r) ≡ false → (r ≡ false → t ≡ false) → (not (p || q) && t) ≡ false
    by_tests true q r t e f = refl
    by_tests false true r t e f = refl
    by_tests false false r t e f = f e
