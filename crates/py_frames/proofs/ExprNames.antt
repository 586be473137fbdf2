-- Texts that are compared, whichever stands first.
use Rattle.std.proofs.Common.{◌≡◌, ℕ, refl, ap, ◌∙◌, List, [], ◌∷◌, ◌==◌, ◌&&◌, Bool, arith}
use Rattle.std.proofs.lemmas.Bool.Decides.{nat_tests}
use Rattle.lists.specs.Texts.{text_eq}

same_sym : (x y : ℕ) → (x == y) ≡ (y == x)
same_sym x y = grind (arith, nat_tests)

pub text_eq_sym : (a b : List ℕ) → text_eq a b ≡ text_eq b a
text_eq_sym [] [] = refl
text_eq_sym [] (y ∷ ys) = refl
text_eq_sym (x ∷ xs) [] = refl
text_eq_sym (x ∷ xs) (y ∷ ys) = ap (λ (z : Bool). z && text_eq xs ys) (same_sym x y) ∙ ap (λ (z : Bool). (y == x) && z) (text_eq_sym xs ys)
