-- A test of ids, which computes, and what it says.
use Rattle.std.proofs.Common.{◌≡◌, ◌≢◌, ◌∙◌, ℕ, Bool, true, false, not, ◌&&◌, List, [], ◌∷◌, refl, sym, ap, arith, All}
use Rattle.std.proofs.lemmas.Bool.{false≢true}
use Rattle.std.proofs.lemmas.List.Elements.{All-nil, All-cons}
use Rattle.std.proofs.lemmas.List.Kept.{AllPairs-cons}
use Rattle.lists.specs.Texts.{text_eq}
use Rattle.lists.proofs.TextLaws.{text_eq_same}
use Rattle.rtlil_text.specs.Ids.{AreDistinct}

and-split : (a b : Bool) → (a && b) ≡ true → (a ≡ true) × (b ≡ true)
and-split true b e = (refl, e)
and-split false b e = absurd (false≢true e)

-- the id is none of these
abbrev pub is_new : List ℕ → List (List ℕ) → Bool
is_new id [] = true
is_new id (x ∷ xs) = not (text_eq id x) && is_new id xs

abbrev pub are_distinct : List (List ℕ) → Bool
are_distinct [] = true
are_distinct (x ∷ xs) = is_new x xs && are_distinct xs

apart : (a b : List ℕ) → not (text_eq a b) ≡ true → a ≢ b
apart a b e same = false≢true (ap not (sym (text_eq_same b)) ∙ ap (λ x. not (text_eq x b)) (sym same) ∙ e)

is_new-apart : (id : List ℕ) (xs : List (List ℕ)) → is_new id xs ≡ true → All (λ x. id ≢ x) xs
is_new-apart id [] e = All-nil (λ x. id ≢ x)
is_new-apart id (x ∷ xs) e = let h = and-split (not (text_eq id x)) (is_new id xs) e in All-cons (λ x. id ≢ x) x xs (apart id x h.0) (is_new-apart id xs h.1)

pub AreDistinct-are_distinct : (ids : List (List ℕ)) → are_distinct ids ≡ true → AreDistinct ids
AreDistinct-are_distinct [] e = λ i j d h lt. absurd (omega arith)
AreDistinct-are_distinct (x ∷ xs) e =
    let h = and-split (is_new x xs) (are_distinct xs) e in
    AllPairs-cons (λ a b. a ≢ b) x xs (is_new-apart x xs h.0) (AreDistinct-are_distinct xs h.1)
