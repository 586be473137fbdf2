-- Names that are given are new, public and distinct.
use Rattle.std.proofs.Common.{◌≡◌, inl, inr, ℕ, zero, suc, ◌+◌, ◌<◌, ◌≤◌, ◌^◌, Bool, true, false, not, cond, List, [], ◌∷◌, ◌++◌, map, length, Option, Some, None, unwrap_or, codes, refl, sym, ap, ◌∙◌, subst, arith, append-nil, append_assoc}
use Rattle.std.specs.Fmt.{decimal}
use Rattle.std.specs.List.{AllByRecursion, IsDistinct, find, range_with_len}
use Rattle.std.proofs.lemmas.Bool.{cases_lt, or_from}
use Rattle.std.proofs.lemmas.List.{length-append}
use Rattle.std.proofs.lemmas.Map.Keys.{IsDistinct-push}
use Rattle.lists.specs.Texts.{text_eq}
use Rattle.lists.specs.Names.{IsSuffix}
use Rattle.new_names.specs.Fresh.{has_name, numbered_name, fresh_name, given_names}
use Rattle.new_names.specs.Laws.{FreshIsNew, FreshIsPublic, GivenAreDistinct, DistinctStay}
use Rattle.new_names.proofs.NameLaws.{text_laws, text_eq_flipped, not_all_taken, fresh_new}

-- ---- a fresh name is new

-- what is found, where something is: the name with some number, and new
record IsFound (names : List (List ℕ)) (name : List ℕ) (found : List ℕ) : Type 0 where
  number : ℕ
  is : found ≡ numbered_name name number
  new : has_name names found ≡ false

-- something is found, or all were taken
abbrev IsFoundOr : List (List ℕ) → List ℕ → (a n : ℕ) → Option (List ℕ) → Type 0
IsFoundOr names name a n None = (j : ℕ) → a ≤ j → j < a + n → has_name names (numbered_name name j) ≡ true
IsFoundOr names name a n (Some x) = IsFound names name x

found_in : (names : List (List ℕ)) (name : List ℕ) (a n : ℕ) → IsFoundOr names name a n (find (λ x. not (has_name names x)) (map (numbered_name name) (range_with_len a n)))
found_in names name a zero = λ j low high. absurd (omega (arith, low, high))
found_in names name a (suc n) = split (has_name names (numbered_name name a)) refl (find (λ x. not (has_name names x)) (map (numbered_name name) (range_with_len (a + 1) n))) (found_in names name (a + 1) n)
  where
    more : (o : Option (List ℕ)) → has_name names (numbered_name name a) ≡ true → IsFoundOr names name (a + 1) n o → IsFoundOr names name a (suc n) o
    more (Some x) e h = h
    more None e h = λ j low high. elim (cases_lt a j) [ inl below ↦ h j (omega (arith, below)) (omega (arith, high)) | inr past ↦ (let same : a ≡ j = omega (arith, past, low) in subst (λ m. has_name names (numbered_name name m) ≡ true) same e) ]

    split : (b : Bool) → has_name names (numbered_name name a) ≡ b → (o : Option (List ℕ)) → IsFoundOr names name (a + 1) n o → IsFoundOr names name a (suc n) (cond (not (has_name names (numbered_name name a))) (Some (numbered_name name a)) o)
    split true e o h = subst (λ b. IsFoundOr names name a (suc n) (cond (not b) (Some (numbered_name name a)) o)) (sym e) (more o e h)
    split false e o h = subst (λ b. IsFoundOr names name a (suc n) (cond (not b) (Some (numbered_name name a)) o)) (sym e) (record { number = a; is = refl; new = e })

-- the name is as it was or has a number, and is new
record IsFresh (names : List (List ℕ)) (name fresh : List ℕ) : Type 0 where
  suffix : List ℕ
  whole : fresh ≡ name ++ suffix
  ends : IsSuffix suffix
  new : has_name names fresh ≡ false

fresh_fresh : (names : List (List ℕ)) (name : List ℕ) → length names < 2 ^ 64 → IsFresh names name (fresh_name names name)
fresh_fresh names name few = split (has_name names name) refl
  where
    by_find : (o : Option (List ℕ)) → has_name names name ≡ true → IsFoundOr names name 1 (length names) o → IsFresh names name (unwrap_or o name)
    by_find (Some x) there h = record { suffix = codes "$" ++ decimal h.number; whole = h.is; ends = inr (h.number, refl); new = h.new }
    by_find None there h = absurd (not_all_taken names name few there (λ j low high. h j low (omega (arith, high))))

    split : (b : Bool) → has_name names name ≡ b → IsFresh names name (cond (has_name names name) (unwrap_or (find (λ x. not (has_name names x)) (map (numbered_name name) (range_with_len 1 (length names)))) name) name)
    split true e = subst (λ b. IsFresh names name (cond b (unwrap_or (find (λ x. not (has_name names x)) (map (numbered_name name) (range_with_len 1 (length names)))) name) name)) (sym e) (by_find (find (λ x. not (has_name names x)) (map (numbered_name name) (range_with_len 1 (length names)))) e (found_in names name 1 (length names)))
    split false e = subst (λ b. IsFresh names name (cond b (unwrap_or (find (λ x. not (has_name names x)) (map (numbered_name name) (range_with_len 1 (length names)))) name) name)) (sym e) (record { suffix = []; whole = sym (append-nil name); ends = inl refl; new = e })

pub fresh_is_new : FreshIsNew
fresh_is_new names name few = (fresh_fresh names name few).new

pub fresh_is_public : FreshIsPublic
fresh_is_public names path few p =
    let f = fresh_fresh names path few in
    record { name = p.name; more = p.more; suffix = f.suffix; first = p.first; others = p.others; ends = f.ends; whole = f.whole ∙ ap (λ t. t ++ f.suffix) p.whole }

-- ---- names one after another

pub given_are_distinct : GivenAreDistinct
given_are_distinct names [] few h = subst (IsDistinct text_eq) (sym (append-nil names)) h
given_are_distinct names (name ∷ more) few h =
    let new : List ℕ = fresh_name names name in
    subst (IsDistinct text_eq) (append_assoc names (new ∷ []) (given_names (names ++ new ∷ []) more))
    (given_are_distinct (names ++ new ∷ []) more (omega (arith, few, length-append names (new ∷ []))) (IsDistinct-push text_laws names new h (fresh_is_new names name (omega (arith, few)))))

-- what stands behind names that differ is none of them
apart : (names : List (List ℕ)) (name : List ℕ) (more : List (List ℕ)) → IsDistinct text_eq (names ++ name ∷ more) → has_name names name ≡ false
unfolding IsDistinct
apart [] name more h = refl
apart (x ∷ names) name more h = or_from (text_eq name x) (has_name names name) (text_eq_flipped name x ∙ across names h.0) (apart names name more h.1)
  where
    across : (ys : List (List ℕ)) → AllByRecursion (λ y. text_eq x y ≡ false) (ys ++ name ∷ more) → text_eq x name ≡ false
    across [] k = k.0
    across (y ∷ ys) k = across ys k.1

pub distinct_stay : DistinctStay
distinct_stay names [] h = refl
distinct_stay names (name ∷ more) h =
    let same : fresh_name names name ≡ name = fresh_new names name (apart names name more h) in
    (λ i. same i ∷ given_names (names ++ same i ∷ []) more)
    ∙ ap (λ rest. name ∷ rest) (distinct_stay (names ++ name ∷ []) more (subst (IsDistinct text_eq) (sym (append_assoc names (name ∷ []) more)) h))
