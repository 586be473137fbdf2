-- The first elements of a list.
use Rattle.std.proofs.Common.{◌≡◌, ◌∙◌, ℕ, zero, suc, ◌+◌, List, [], ◌∷◌, ◌++◌, length, ap, arith, take, Some, slice_get}
use Rattle.std.proofs.lemmas.List.{take_all}
use Rattle.digraph.proofs.GraphLists.{some-same}

pub take_at : {X : Type 0} (xs : List X) (i : ℕ) (x : X) → slice_get xs i ≡ Some x → take (suc i) xs ≡ take i xs ++ x ∷ []
take_at [] i x at = absurd cc
take_at (y ∷ xs) zero x at = ap (λ z. z ∷ []) (some-same y x at)
take_at (y ∷ xs) (suc i) x at = ap (λ zs. y ∷ zs) (take_at xs i x at)

pub take-push : {X : Type 0} (xs : List X) (i : ℕ) (x : X) → slice_get xs i ≡ Some x → take (i + 1) xs ≡ take i xs ++ x ∷ []
take-push xs i x at = let next : i + 1 ≡ suc i = omega arith in ap (λ n. take n xs) next ∙ take_at xs i x at

pub take_end : {X : Type 0} (xs : List X) (i : ℕ) → i ≡ length xs → take i xs ≡ xs
take_end xs i end = take_all i xs (omega (arith, end))
