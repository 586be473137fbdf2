-- Lists of which one element at most passes a test, and folds over them.
use Rattle.std.specs.Prelude.{◌≡◌, refl, ℕ, ◌==◌, ◌&&◌, ◌||◌, ⊤, Bool, true, false, cond, List, [], ◌∷◌, ◌++◌, map, length, ℤ, Some, None, fold, option_map}
use Rattle.std.specs.List.{AllByRecursion, IsDistinct, list_any, find}
use Rattle.std.proofs.Common.{sym, ◌∙◌, ap, ⊎_elim}
use Rattle.std.proofs.lemmas.Bool.{false≢true, or_parts, or_cases, or_from, and_right, eqb-true}
use Rattle.std.proofs.lemmas.Map.Keys.{IsDistinct-head, IsDistinct-tail}
use Rattle.design_ir.specs.Circuits.{at, is_among}
use Rattle.design_ir.specs.Designs.{share}
use Rattle.design_ir.proofs.GuardLaws.{fold_append}

module _ {A : Type 0} (t : A → Bool) where
  abbrev pub NonePass : List A → Type 0
  NonePass xs = AllByRecursion (λ x. t x ≡ false) xs

  abbrev pub AtMostOne : List A → Type 0
  AtMostOne [] = ⊤
  AtMostOne (x ∷ xs) = (t x ≡ true → NonePass xs) × AtMostOne xs

  -- this one alone passes
  pub record IsOnly (xs : List A) (x : A) : Type 0 where
    pub before : List A
    pub after : List A
    pub split : xs ≡ before ++ x ∷ after
    pub here : t x ≡ true
    pub none_before : NonePass before
    pub none_after : NonePass after

  pub find_only : (xs : List A) (x : A) → AtMostOne xs → find t xs ≡ Some x → IsOnly xs x
  find_only [] x d e = cc
  find_only (y ∷ xs) x d e = first (t y) refl e (λ k. find_only xs x d.1 k)
    where
      first : (b : Bool) → t y ≡ b → cond b (Some y) (find t xs) ≡ Some x → (find t xs ≡ Some x → IsOnly xs x) → IsOnly (y ∷ xs) x
      first true here e others =
          let same : y ≡ x = cc in
          record { before = []; after = xs; split = ap (λ z. z ∷ xs) same; here = ap t (sym same) ∙ here; none_before = tt; none_after = d.0 here }
      first false here e others =
          let r = others e in
          record { before = y ∷ r.before; after = r.after; split = ap (λ zs. y ∷ zs) r.split; here = r.here; none_before = (here, r.none_before); none_after = r.none_after }

  pub find_none : (xs : List A) → find t xs ≡ None → NonePass xs
  find_none [] e = tt
  find_none (y ∷ xs) e = first (t y) refl e (λ k. find_none xs k)
    where
      first : (b : Bool) → t y ≡ b → cond b (Some y) (find t xs) ≡ None → (find t xs ≡ None → NonePass xs) → NonePass (y ∷ xs)
      first true here e others = cc
      first false here e others = (here, others e)

  -- ---- parts of a list

  none_left : (xs ys : List A) → NonePass (xs ++ ys) → NonePass xs
  none_left [] ys h = tt
  none_left (x ∷ xs) ys h = (h.0, none_left xs ys h.1)

  none_right : (xs ys : List A) → NonePass (xs ++ ys) → NonePass ys
  none_right [] ys h = h
  none_right (x ∷ xs) ys h = none_right xs ys h.1

  pub one_left : (xs ys : List A) → AtMostOne (xs ++ ys) → AtMostOne xs
  one_left [] ys h = tt
  one_left (x ∷ xs) ys h = ((λ e. none_left xs ys (h.0 e)), one_left xs ys h.1)

  pub one_right : (xs ys : List A) → AtMostOne (xs ++ ys) → AtMostOne ys
  one_right [] ys h = h
  one_right (x ∷ xs) ys h = one_right xs ys h.1

  -- where one before passes, none behind does
  pub one_across : (xs ys : List A) → AtMostOne (xs ++ ys) → list_any t xs ≡ true → NonePass ys
  one_across [] ys h e = absurd (false≢true e)
  one_across (x ∷ xs) ys h e = ⊎_elim (λ (here : t x ≡ true). none_right xs ys (h.0 here)) (λ (more : list_any t xs ≡ true). one_across xs ys h.1 more) (or_cases (t x) (list_any t xs) e)

  pub only_any : (xs : List A) (x : A) → IsOnly xs x → list_any t xs ≡ true
  only_any xs x o = ap (list_any t) o.split ∙ in_split o.before o.after
    where
      in_split : (before after : List A) → list_any t (before ++ x ∷ after) ≡ true
      in_split [] after = ap (λ b. b || list_any t after) o.here
      in_split (y ∷ before) after = or_second (t y) (list_any t (before ++ x ∷ after)) (in_split before after)
        where
          or_second : (a b : Bool) → b ≡ true → (a || b) ≡ true
          or_second true b e = refl
          or_second false b e = e

  -- ---- whether one of a kind passes

  module _ (kind : A → Bool) where
    abbrev pub of_kind : A → Bool
    of_kind x = kind x && t x

    pub none_of_kind : (xs : List A) → NonePass xs → list_any of_kind xs ≡ false
    none_of_kind [] h = refl
    none_of_kind (x ∷ xs) h = or_from (of_kind x) (list_any of_kind xs) (and_right (kind x) (t x) h.0) (none_of_kind xs h.1)

    in_split : (before after : List A) (x : A) → NonePass before → NonePass after → t x ≡ true → list_any of_kind (before ++ x ∷ after) ≡ kind x
    in_split [] after x h k e = ap (λ b. (kind x && b) || list_any of_kind after) e ∙ ap (λ b. (kind x && true) || b) (none_of_kind after k) ∙ whether (kind x)
      where
        whether : (b : Bool) → ((b && true) || false) ≡ b
        whether true = refl
        whether false = refl
    in_split (y ∷ before) after x h k e = ap (λ b. b || list_any of_kind (before ++ x ∷ after)) (and_right (kind y) (t y) h.0) ∙ in_split before after x h.1 k e

    pub only_of_kind : (xs : List A) (x : A) → IsOnly xs x → list_any of_kind xs ≡ kind x
    only_of_kind xs x o = ap (list_any of_kind) o.split ∙ in_split o.before o.after x o.none_before o.none_after o.here

  -- ---- a fold in which each element that does not pass leaves the number of a signal alone

  module _ (s : ℕ) (g : List ℤ → A → List ℤ) (count : (cur : List ℤ) (x : A) → length (g cur x) ≡ length cur) (others : (cur : List ℤ) (x : A) → t x ≡ false → at (g cur x) s ≡ at cur s) where
    pub fold_length : (xs : List A) (cur : List ℤ) → length (fold g cur xs) ≡ length cur
    fold_length [] cur = refl
    fold_length (x ∷ xs) cur = fold_length xs (g cur x) ∙ count cur x

    pub fold_none : (xs : List A) (cur : List ℤ) → NonePass xs → at (fold g cur xs) s ≡ at cur s
    fold_none [] cur h = refl
    fold_none (x ∷ xs) cur h = fold_none xs (g cur x) h.1 ∙ others cur x h.0

    -- what stands before the one that passes
    pub record IsFolded (xs : List A) (x : A) (cur : List ℤ) : Type 0 where
      pub then : List ℤ
      pub same : at then s ≡ at cur s
      pub long : length then ≡ length cur
      pub result : at (fold g cur xs) s ≡ at (g then x) s

    pub fold_only : (xs : List A) (x : A) (cur : List ℤ) → IsOnly xs x → IsFolded xs x cur
    fold_only xs x cur o =
        let mid : List ℤ = fold g cur o.before in
        record {
          then = mid;
          same = fold_none o.before cur o.none_before;
          long = fold_length o.before cur;
          result = ap (λ zs. at (fold g cur zs) s) o.split ∙ ap (λ zs. at zs s) (fold_append g cur o.before (x ∷ o.after)) ∙ fold_none o.after (g mid x) o.none_after;
        }

-- ---- through a function

module _ {A B : Type 0} (t : B → Bool) (f : A → B) where
  pub none_mapped : (xs : List A) → NonePass t (map f xs) → NonePass (λ x. t (f x)) xs
  none_mapped [] h = tt
  none_mapped (x ∷ xs) h = (h.0, none_mapped xs h.1)

  pub one_mapped : (xs : List A) → AtMostOne t (map f xs) → AtMostOne (λ x. t (f x)) xs
  one_mapped [] h = tt
  one_mapped (x ∷ xs) h = ((λ e. none_mapped xs (h.0 e)), one_mapped xs h.1)

  pub any_mapped : (xs : List A) → list_any t (map f xs) ≡ list_any (λ x. t (f x)) xs
  any_mapped [] = refl
  any_mapped (x ∷ xs) = ap (λ b. t (f x) || b) (any_mapped xs)

  pub find_mapped : (xs : List A) → find t (map f xs) ≡ option_map f (find (λ x. t (f x)) xs)
  find_mapped [] = refl
  find_mapped (x ∷ xs) = first (t (f x)) (find_mapped xs)
    where
      first : (b : Bool) → find t (map f xs) ≡ option_map f (find (λ x. t (f x)) xs) → cond b (Some (f x)) (find t (map f xs)) ≡ option_map f (cond b (Some x) (find (λ x. t (f x)) xs))
      first true e = refl
      first false e = e

-- ---- lists of which no two share a signal

not_shared : (s : ℕ) (xs ys : List ℕ) → share xs ys ≡ false → is_among xs s ≡ true → is_among ys s ≡ false
not_shared s [] ys e h = absurd (false≢true h)
not_shared s (x ∷ xs) ys e h =
    let parts = or_parts (is_among ys x) (share xs ys) e in
    ⊎_elim (λ (same : (x == s) ≡ true). ap (is_among ys) (sym (eqb-true x s same)) ∙ parts.0) (λ (more : is_among xs s ≡ true). not_shared s xs ys parts.1 more) (or_cases (x == s) (is_among xs s) h)

none_shared : (s : ℕ) (xs : List ℕ) (lists : List (List ℕ)) → is_among xs s ≡ true → AllByRecursion (λ ys. share xs ys ≡ false) lists → NonePass (λ ys. is_among ys s) lists
none_shared s xs [] h e = tt
none_shared s xs (ys ∷ lists) h e = (not_shared s xs ys e.0 h, none_shared s xs lists h e.1)

pub once : (s : ℕ) (lists : List (List ℕ)) → IsDistinct share lists → AtMostOne (λ ys. is_among ys s) lists
once s [] d = tt
once s (xs ∷ lists) d = ((λ e. none_shared s xs lists e (IsDistinct-head share xs lists d)), once s lists (IsDistinct-tail share xs lists d))
