-- A loop over a list that adds a text for each element.
use Rattle.std.proofs.Common.{◌≡◌, ◌∙◌, ◌<◌, ◌≤◌, ◌+◌, ℕ, zero, suc, List, [], ◌∷◌, ◌++◌, length, get_or, take, drop, refl, ap, sym, arith, add-one, append_assoc}
use Rattle.std.specs.List.{flat_map}
use Rattle.std.proofs.lemmas.List.{append-nil}

next : {A : Type 0} (f : A → List ℕ) (xs : List A) (i : ℕ) (x : A) → i < length xs → x ≡ get_or xs i x → flat_map f (take (suc i) xs) ≡ flat_map f (take i xs) ++ f x
next f [] i x h e = absurd (omega arith)
next f (y ∷ ys) zero x h e = append-nil (f y) ∙ ap f (sym e)
next f (y ∷ ys) (suc i) x h e = ap (λ r. f y ++ r) (next f ys i x (omega arith) e) ∙ sym (append_assoc (f y) (flat_map f (take i ys)) (f x))

-- one more element
pub flat_map-take_more : {A : Type 0} (f : A → List ℕ) (xs : List A) (i : ℕ) (x : A) → i < length xs → x ≡ get_or xs i x → flat_map f (take (i + 1) xs) ≡ flat_map f (take i xs) ++ f x
flat_map-take_more f xs i x h e = rw add-one (next f xs i x h e)

pub flat_map-take_drop : {A : Type 0} (f : A → List ℕ) (xs : List A) (i : ℕ) → flat_map f (take i xs) ++ flat_map f (drop i xs) ≡ flat_map f xs
flat_map-take_drop f [] zero = refl
flat_map-take_drop f [] (suc i) = refl
flat_map-take_drop f (y ∷ ys) zero = refl
flat_map-take_drop f (y ∷ ys) (suc i) = append_assoc (f y) (flat_map f (take i ys)) (flat_map f (drop i ys)) ∙ ap (λ r. f y ++ r) (flat_map-take_drop f ys i)

-- what was added, this element's text and those to come
pub flat_map-split : {A : Type 0} (f : A → List ℕ) (xs : List A) (i : ℕ) (x : A) → i < length xs → x ≡ get_or xs i x → (flat_map f (take i xs) ++ f x) ++ flat_map f (drop (i + 1) xs) ≡ flat_map f xs
flat_map-split f xs i x h e = ap (λ r. r ++ flat_map f (drop (i + 1) xs)) (sym (flat_map-take_more f xs i x h e)) ∙ flat_map-take_drop f xs (i + 1)

pub take-all : {A : Type 0} (xs : List A) (n : ℕ) → length xs ≤ n → take n xs ≡ xs
take-all [] zero h = refl
take-all [] (suc n) h = refl
take-all (x ∷ xs) zero h = absurd (omega arith)
take-all (x ∷ xs) (suc n) h = ap (λ r. x ∷ r) (take-all xs n (omega arith))
