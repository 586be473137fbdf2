-- Texts, each where it comes first.
use Rattle.std.proofs.Common.{◌≡◌, ℕ, suc, ◌+◌, ◌≤◌, nat_lt, Bool, true, false, not, ◌||◌, cond, List, [], ◌∷◌, ◌++◌, length, Some, None, is_some, position, slice_get, refl, sym, ap, ◌∙◌, arith, append-nil, append_assoc}
use Rattle.std.specs.List.{AllByRecursion, IsDistinct, list_any, filter, find, prefix_len, position_or_len}
use Rattle.std.proofs.lemmas.Bool.{false≢true}
use Rattle.std.proofs.lemmas.Bool.Decides.{nat_tests}
use Rattle.std.proofs.lemmas.Option.{slice_get_past}
use Rattle.std.proofs.lemmas.List.Elements.{filter-append}
use Rattle.std.proofs.lemmas.List.Folds.{find_at}
use Rattle.lists.specs.Texts.{text_eq}
use Rattle.lists.proofs.TextLaws.{text_eq_true}
use Rattle.fragment_walks.proofs.Lists.{all_filtered, all_imp, distinct_filter, not_true, passes}
use Rattle.clock_domains.specs.Resolved.{each_once}

-- ---- one text more

pub once-push : (ns : List (List ℕ)) (n : List ℕ) → each_once (ns ++ n ∷ []) ≡ cond (list_any (λ m. text_eq m n) ns) (each_once ns) (each_once ns ++ n ∷ [])
once-push [] n = refl
once-push (m ∷ ns) n = ap (λ xs. m ∷ filter others xs) (once-push ns n) ∙ split (list_any (λ k. text_eq k n) ns) (text_eq m n) refl
  where
    others : List ℕ → Bool
    others k = not (text_eq m k)

    split : (a b : Bool) → text_eq m n ≡ b → m ∷ filter (λ k. not (text_eq m k)) (cond a (each_once ns) (each_once ns ++ n ∷ [])) ≡ cond (b || a) (m ∷ filter (λ k. not (text_eq m k)) (each_once ns)) (m ∷ (filter (λ k. not (text_eq m k)) (each_once ns) ++ n ∷ []))
    split true true e = refl
    split true false e = refl
    split false true e =
        ap (λ xs. m ∷ xs) (filter-append (λ k. not (text_eq m k)) (each_once ns) (n ∷ []) ∙ ap (λ b. filter (λ k. not (text_eq m k)) (each_once ns) ++ cond (not b) (n ∷ []) []) e ∙ append-nil (filter (λ k. not (text_eq m k)) (each_once ns)))
    split false false e = ap (λ xs. m ∷ xs) (filter-append (λ k. not (text_eq m k)) (each_once ns) (n ∷ []) ∙ ap (λ b. filter (λ k. not (text_eq m k)) (each_once ns) ++ cond (not b) (n ∷ []) []) e)

-- whatever grows with one more grows with more
pub once_grows : (f : List (List ℕ) → ℕ) → ((xs : List (List ℕ)) (x : List ℕ) → f xs ≤ f (xs ++ x ∷ [])) → (ns ms : List (List ℕ)) → f (each_once ns) ≤ f (each_once (ns ++ ms))
once_grows f more ns [] = let e = ap (λ xs. f (each_once xs)) (append-nil ns) in omega (arith, e)
once_grows f more ns (m ∷ ms) =
    let e = ap (λ xs. f (each_once xs)) (append_assoc ns (m ∷ []) ms) in
    let here = pushed (list_any (λ k. text_eq k m) ns) in
    let push = ap f (once-push ns m) in
    let rest = once_grows f more (ns ++ m ∷ []) ms in
    omega (arith, e, here, push, rest)
  where
    pushed : (b : Bool) → f (each_once ns) ≤ f (cond b (each_once ns) (each_once ns ++ m ∷ []))
    pushed true = omega arith
    pushed false = more (each_once ns) m

-- ---- what stands there

-- what does not pass can be left out
any_filter : {A : Type 0} (p f : A → Bool) (xs : List A) → ((x : A) → f x ≡ false → p x ≡ false) → list_any p (filter f xs) ≡ list_any p xs
any_filter p f [] h = refl
any_filter p f (x ∷ xs) h = split (f x) refl ∙ ap (λ b. p x || b) (any_filter p f xs h)
  where
    split : (b : Bool) → f x ≡ b → list_any p (cond b (x ∷ filter f xs) (filter f xs)) ≡ (p x || list_any p (filter f xs))
    split true e = refl
    split false e = ap (λ b. b || list_any p (filter f xs)) (sym (h x e))

pub once_any : (ns : List (List ℕ)) (n : List ℕ) → list_any (λ m. text_eq m n) (each_once ns) ≡ list_any (λ m. text_eq m n) ns
once_any [] n = refl
once_any (m ∷ ns) n = split (text_eq m n) refl (once_any ns n)
  where
    not_false : (b : Bool) → not b ≡ false → b ≡ true
    not_false true e = refl
    not_false false e = absurd (false≢true (sym e))

    other : text_eq m n ≡ false → (k : List ℕ) → not (text_eq m k) ≡ false → text_eq k n ≡ false
    other e k h = ap (λ x. text_eq x n) (sym (text_eq_true m k (not_false (text_eq m k) h))) ∙ e

    split : (b : Bool) → text_eq m n ≡ b → list_any (λ k. text_eq k n) (each_once ns) ≡ list_any (λ k. text_eq k n) ns
        → (text_eq m n || list_any (λ k. text_eq k n) (filter (λ k. not (text_eq m k)) (each_once ns))) ≡ (text_eq m n || list_any (λ k. text_eq k n) ns)
    split true e rest = ap (λ b. b || list_any (λ k. text_eq k n) (filter (λ k. not (text_eq m k)) (each_once ns))) e ∙ sym (ap (λ b. b || list_any (λ k. text_eq k n) ns) e)
    split false e rest = ap (λ b. text_eq m n || b) (any_filter (λ k. text_eq k n) (λ k. not (text_eq m k)) (each_once ns) (other e) ∙ rest)

pub once_all : (P : List ℕ → Type 0) (ns : List (List ℕ)) → AllByRecursion P ns → AllByRecursion P (each_once ns)
once_all P [] h = tt
once_all P (n ∷ ns) h = (h.0, all_filtered P (λ m. not (text_eq n m)) (each_once ns) (once_all P ns h.1))

pub once_distinct : (ns : List (List ℕ)) → IsDistinct text_eq (each_once ns)
unfolding IsDistinct
once_distinct [] = tt
once_distinct (n ∷ ns) = (
  all_imp (λ m t. not_true (text_eq n m) t) (filter (λ m. not (text_eq n m)) (each_once ns)) (passes (λ m. not (text_eq n m)) (each_once ns)),
  distinct_filter text_eq (λ m. not (text_eq n m)) (each_once ns) (once_distinct ns),
)

-- ---- positions

later : (k n : ℕ) → nat_lt (1 + k) (suc n) ≡ nat_lt k n
later k n = grind (arith, nat_tests)

at_first : (n : ℕ) → nat_lt 0 (suc n) ≡ true
at_first n = grind (arith, nat_tests)

module _ {A : Type 0} (p : A → Bool) where
  short_any : (xs : List A) → nat_lt (prefix_len (λ x. not (p x)) xs) (length xs) ≡ list_any p xs
  short_any [] = refl
  short_any (x ∷ xs) = split (p x) (short_any xs)
    where
      split : (b : Bool) → nat_lt (prefix_len (λ x. not (p x)) xs) (length xs) ≡ list_any p xs → nat_lt (cond (not b) (1 + prefix_len (λ x. not (p x)) xs) 0) (suc (length xs)) ≡ (b || list_any p xs)
      split true rest = at_first (length xs)
      split false rest = later (prefix_len (λ x. not (p x)) xs) (length xs) ∙ rest

  some_where : (b : Bool) (n : ℕ) → is_some (cond b (Some n) None) ≡ b
  some_where true n = refl
  some_where false n = refl

  -- a position is found where some element passes
  pub position_any : (xs : List A) → is_some (position p xs) ≡ list_any p xs
  position_any xs = some_where (nat_lt (prefix_len (λ x. not (p x)) xs) (length xs)) (prefix_len (λ x. not (p x)) xs) ∙ short_any xs

  pub find_placed : (xs : List A) (k : ℕ) → position p xs ≡ Some k → find p xs ≡ slice_get xs k
  find_placed xs k e = find_at p xs ∙ ap (slice_get xs) (place_is (nat_lt (position_or_len p xs) (length xs)) (position_or_len p xs) k e)
    where
      place_is : (b : Bool) (n k : ℕ) → cond b (Some n) None ≡ Some k → n ≡ k
      place_is true n k e = cc
      place_is false n k e = cc

  pub find_nowhere : (xs : List A) → position p xs ≡ None → find p xs ≡ None
  find_nowhere xs e = find_at p xs ∙ slice_get_past xs (position_or_len p xs) (not_below (position_or_len p xs) (length xs) (not_placed (nat_lt (position_or_len p xs) (length xs)) (position_or_len p xs) e))
    where
      not_placed : (b : Bool) (n : ℕ) → cond b (Some n) None ≡ None → b ≡ false
      not_placed true n e = cc
      not_placed false n e = refl

      not_below : (n m : ℕ) → nat_lt n m ≡ false → m ≤ n
      not_below n m e = grind (arith, nat_tests)
