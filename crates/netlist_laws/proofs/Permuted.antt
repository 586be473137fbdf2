-- Lists with the same elements: parts that change places, and lists gathered side by side.
use Rattle.std.specs.Prelude.{◌≡◌, List, [], ◌∷◌, ◌++◌, IsPermutation}
use Rattle.std.specs.List.{flat_map}
use Rattle.std.proofs.Common.{refl, sym, ap, ◌∙◌, subst, append_assoc}
use Rattle.std.proofs.lemmas.List.Sorted.{IsPermutation-refl, IsPermutation-append, IsPermutation-append_left, IsPermutation-append_right, IsPermutation-append_comm, IsPermutation-trans}

pub IsPermutation-same : {A : Type 0} (xs ys : List A) → xs ≡ ys → IsPermutation xs ys
IsPermutation-same xs ys e = subst (IsPermutation xs) e (IsPermutation-refl xs)

-- the first two of three parts change places
pub IsPermutation-first_two : {A : Type 0} (a b c : List A) → IsPermutation (a ++ (b ++ c)) (b ++ (a ++ c))
IsPermutation-first_two a b c =
    subst (λ r. IsPermutation r (b ++ (a ++ c))) (append_assoc a b c) (subst (IsPermutation ((a ++ b) ++ c)) (append_assoc b a c) (IsPermutation-append_left c (a ++ b) (b ++ a) (IsPermutation-append_comm a b)))

-- of four parts the two in the middle
pub IsPermutation-inner_two : {A : Type 0} (a b c d : List A) → IsPermutation ((a ++ b) ++ (c ++ d)) ((a ++ c) ++ (b ++ d))
IsPermutation-inner_two a b c d =
    subst (λ r. IsPermutation r ((a ++ c) ++ (b ++ d))) (sym (append_assoc a b (c ++ d)))
    (subst (IsPermutation (a ++ (b ++ (c ++ d)))) (sym (append_assoc a c (b ++ d))) (IsPermutation-append_right a (b ++ (c ++ d)) (c ++ (b ++ d)) (IsPermutation-first_two b c d)))

-- what two functions give for each element, one behind the other, or all of the first before all of the second
pub IsPermutation-flat_map : {A B : Type 0} (f g : A → List B) (xs : List A) → IsPermutation (flat_map f xs ++ flat_map g xs) (flat_map (λ x. f x ++ g x) xs)
IsPermutation-flat_map f g [] = IsPermutation-refl []
IsPermutation-flat_map f g (x ∷ xs) =
    let F = flat_map f xs in
    let G = flat_map g xs in
    IsPermutation-trans ((f x ++ F) ++ (g x ++ G)) ((f x ++ g x) ++ (F ++ G)) ((f x ++ g x) ++ flat_map (λ y. f y ++ g y) xs) (IsPermutation-inner_two (f x) F (g x) G)
    (IsPermutation-append_right (f x ++ g x) (F ++ G) (flat_map (λ y. f y ++ g y) xs) (IsPermutation-flat_map f g xs))

-- two functions that give the same elements for each
pub IsPermutation-each : {A B : Type 0} (f g : A → List B) (xs : List A) → ((x : A) → IsPermutation (f x) (g x)) → IsPermutation (flat_map f xs) (flat_map g xs)
IsPermutation-each f g [] h = IsPermutation-refl []
IsPermutation-each f g (x ∷ xs) h = IsPermutation-append (f x) (g x) (flat_map f xs) (flat_map g xs) (h x) (IsPermutation-each f g xs h)

pub flat_map-nested : {A B C : Type 0} (f : B → List C) (g : A → List B) (xs : List A) → flat_map f (flat_map g xs) ≡ flat_map (λ x. flat_map f (g x)) xs
flat_map-nested f g [] = refl
flat_map-nested f g (x ∷ xs) = flat_map-split f (g x) (flat_map g xs) ∙ ap (λ r. flat_map f (g x) ++ r) (flat_map-nested f g xs)
  where
    flat_map-split : {B C : Type 0} (f : B → List C) (xs ys : List B) → flat_map f (xs ++ ys) ≡ flat_map f xs ++ flat_map f ys
    flat_map-split f [] ys = refl
    flat_map-split f (x ∷ xs) ys = ap (λ r. f x ++ r) (flat_map-split f xs ys) ∙ sym (append_assoc (f x) (flat_map f xs) (flat_map f ys))
