-- Names that stand once.
use Rattle.std.proofs.Common.{◌≡◌, ℕ, ◌↔◌, Bool, true, false, ◌||◌, List, [], ◌∷◌, map, Option, Some, refl, sym, ap, ◌∙◌, if◌then◌else◌}
use Rattle.std.specs.Prelude.{find}
use Rattle.std.specs.List.{list_any, AllByRecursion, IsDistinct}
use Rattle.std.proofs.lemmas.Bool.{false≢true}
use Rattle.lists.specs.Texts.{text_eq}
use Rattle.lists.proofs.TextLaws.{text_eq_same}
use Rattle.data_layouts.specs.Names.{has_twins}

or_none : (a b : Bool) → (a || b) ≡ false → (a ≡ false) × (b ≡ false)
or_none true b h = absurd (false≢true (sym h))
or_none false b h = (refl, h)

both_none : (a b : Bool) → a ≡ false → b ≡ false → (a || b) ≡ false
both_none a b p q = rw (p, q) refl

none_equal : (n : List ℕ) (ns : List (List ℕ)) → list_any (text_eq n) ns ≡ false → AllByRecursion (λ k. text_eq n k ≡ false) ns
none_equal n [] h = tt
none_equal n (k ∷ ks) h = let s = or_none (text_eq n k) (list_any (text_eq n) ks) h in (s.0, none_equal n ks s.1)

no_equal : (n : List ℕ) (ns : List (List ℕ)) → AllByRecursion (λ k. text_eq n k ≡ false) ns → list_any (text_eq n) ns ≡ false
no_equal n [] h = refl
no_equal n (k ∷ ks) h = both_none (text_eq n k) (list_any (text_eq n) ks) h.0 (no_equal n ks h.1)

distinct : (ns : List (List ℕ)) → has_twins ns ≡ false → IsDistinct text_eq ns
unfolding IsDistinct
distinct [] h = tt
distinct (n ∷ ns) h = let s = or_none (list_any (text_eq n) ns) (has_twins ns) h in (none_equal n ns s.0, distinct ns s.1)

no_twins : (ns : List (List ℕ)) → IsDistinct text_eq ns → has_twins ns ≡ false
unfolding IsDistinct
no_twins [] h = refl
no_twins (n ∷ ns) h = both_none (list_any (text_eq n) ns) (has_twins ns) (no_equal n ns h.0) (no_twins ns h.1)

pub twins_or_distinct : (ns : List (List ℕ)) → (has_twins ns ≡ false) ↔ IsDistinct text_eq ns
twins_or_distinct ns = (distinct ns, no_twins ns)

-- ---- what is found by its name

module _ {A : Type 0} (name : A → List ℕ) where
  abbrev found : List ℕ → List A → Option A
  found n xs = find (λ x. text_eq (name x) n) xs

  passed_over : (x y : A) (xs : List A) → text_eq (name x) (name y) ≡ false → found (name y) xs ≡ Some y → found (name y) (x ∷ xs) ≡ Some y
  passed_over x y xs other h = ap (λ b. if b then Some x else found (name y) xs) other ∙ h

  all_passed_over : (x : A) (xs ys : List A) → list_any (text_eq (name x)) (map name ys) ≡ false → AllByRecursion (λ y. found (name y) xs ≡ Some y) ys → AllByRecursion (λ y. found (name y) (x ∷ xs) ≡ Some y) ys
  all_passed_over x xs [] h all = tt
  all_passed_over x xs (y ∷ ys) h all =
      let s = or_none (text_eq (name x) (name y)) (list_any (text_eq (name x)) (map name ys)) h in
      (passed_over x y xs s.0 all.0, all_passed_over x xs ys s.1 all.1)

  pub all_found : (xs : List A) → has_twins (map name xs) ≡ false → AllByRecursion (λ y. found (name y) xs ≡ Some y) xs
  all_found [] h = tt
  all_found (x ∷ xs) h =
      let s = or_none (list_any (text_eq (name x)) (map name xs)) (has_twins (map name xs)) h in
      (ap (λ b. if b then Some x else found (name x) xs) (text_eq_same (name x)), all_passed_over x xs xs s.0 (all_found xs s.1))
