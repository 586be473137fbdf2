-- One more of a list that another is, thing by thing.
use Rattle.std.specs.Prelude.{◌≡◌, ℕ, ◌+◌, List, [], ◌∷◌, ◌++◌, length, map, take, slice_get, Option, Some, unwrap_or, option_map}
use Rattle.std.proofs.Common.{sym, ◌∙◌, ap, get_or}
use Rattle.std.proofs.lemmas.List.{map-append, length-map, take_more}
use Rattle.std.proofs.lemmas.Option.{get_or_from_slice_get, slice_get_within, slice_get-map}

pub mapped-more : {A B C : Type 0} (f : A → C) (g : B → C) (xs ys : List A) (zs : List B) (i : ℕ) (x : A) (z : B) → slice_get zs i ≡ Some z → f x ≡ g z → map f xs ≡ map g (take i zs) → ys ≡ xs ++ x ∷ []
    → map f ys ≡ map g (take (i + 1) zs)
mapped-more f g xs ys zs i x z there same before grown =
    ap (map f) grown ∙ map-append f xs (x ∷ []) ∙ ap (λ cs. cs ++ f x ∷ []) before ∙ ap (λ c. map g (take i zs) ++ c ∷ []) same
    ∙ ap (λ b. map g (take i zs) ++ g b ∷ []) (sym (get_or_from_slice_get zs i z z there))
    ∙ sym (ap (map g) (take_more zs i z (slice_get_within zs i z there)) ∙ map-append g (take i zs) (get_or zs i z ∷ []))

-- where two lists are seen alike, they are as long
pub length-mapped : {A B C : Type 0} (f : A → C) (g : B → C) (xs : List A) (zs : List B) → map f xs ≡ map g zs → length xs ≡ length zs
length-mapped f g xs zs same = sym (length-map xs f) ∙ ap length same ∙ length-map zs g

-- and their things are, one by one
pub seen_alike : {A B C : Type 0} (f : A → C) (g : B → C) (xs : List A) (zs : List B) (i : ℕ) (x : A) (z : B) → map f xs ≡ map g zs → slice_get xs i ≡ Some x → slice_get zs i ≡ Some z → f x ≡ g z
seen_alike f g xs zs i x z same left right =
    ap (λ o. unwrap_or o (f x))
    (sym (slice_get-map f xs i ∙ ap (option_map f) left) ∙ ap (λ cs. slice_get cs i) same ∙ slice_get-map g zs i ∙ ap (option_map g) right)
