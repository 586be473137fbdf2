-- A turn of a loop over a list.
use Rattle.std.specs.Prelude.{◌≡◌, ℕ, zero, suc, ◌+◌, ◌<◌, ◌≤◌, List, [], ◌∷◌, drop, length, fold}
use Rattle.std.specs.List.{AllByRecursion}
use Rattle.std.proofs.Common.{refl, sym, ◌∙◌, ap, subst, arith, get_or}
use Rattle.std.proofs.lemmas.List.{at_drop_more, at_drop_all}

-- one element folded
pub fold_turn : {A B : Type 0} (f : B → A → B) (b more all : B) (xs : List A) (i : ℕ) (x : A) → i < length xs → x ≡ get_or xs i x → more ≡ f b x → fold f b (drop i xs) ≡ all → fold f more (drop (i + 1) xs) ≡ all
fold_turn f b more all xs i x h is e known =
    ap (λ c. fold f c (drop (i + 1) xs)) e
    ∙ sym (at_drop_more (fold f b) xs i x h ∙ ap (λ y. fold f (f b y) (drop (i + 1) xs)) (sym is)) ∙ known

-- all elements folded
pub fold_end : {A B : Type 0} (f : B → A → B) (b all : B) (xs : List A) (i : ℕ) → length xs ≤ i → fold f b (drop i xs) ≡ all → b ≡ all
fold_end f b all xs i h known = sym (at_drop_all (fold f b) xs i h) ∙ known

-- what holds of all elements from here on
pub all_here : {A : Type 0} (P : A → Type 0) (xs : List A) (i : ℕ) (x : A) → i < length xs → x ≡ get_or xs i x → AllByRecursion P (drop i xs) → P x × AllByRecursion P (drop (i + 1) xs)
all_here {A} P xs i x h is all = let split = subst (λ ys. AllByRecursion P ys) here all in split
  where
    here : drop i xs ≡ x ∷ drop (i + 1) xs
    here = at_drop_more (λ ys. ys) xs i x h ∙ ap (λ y. y ∷ drop (i + 1) xs) (sym is)

-- an element that is there, whatever stands for one that is not
pub any_default : {A : Type 0} (xs : List A) (i : ℕ) (d e : A) → i < length xs → get_or xs i d ≡ get_or xs i e
any_default [] i d e h = absurd (omega (arith, h))
any_default (x ∷ xs) zero d e h = refl
any_default (x ∷ xs) (suc i) d e h = any_default xs i d e (omega (arith, h))
