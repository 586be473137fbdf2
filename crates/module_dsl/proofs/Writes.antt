-- A list that is written from its front on.
use Rattle.std.proofs.Common.{◌≡◌, ℕ, zero, suc, ◌+◌, ◌<◌, List, [], ◌∷◌, ◌++◌, map, length, take, drop, slice_set, slice_index_or, refl, ap, ◌∙◌, arith}

module _ {A : Type 0} (f : A → A) where
  written : (xs : List A) (i : ℕ) (d : A) → i < length xs → take (suc i) (slice_set xs i (f (slice_index_or xs i d))) ++ map f (drop (suc i) (slice_set xs i (f (slice_index_or xs i d)))) ≡ take i xs ++ map f (drop i xs)
  written [] i d h = absurd (omega (arith, h))
  written (x ∷ xs) zero d h = refl
  written (x ∷ xs) (suc i) d h = ap (λ ys. x ∷ ys) (written xs i d (omega (arith, h)))

  pub write-next : (xs target : List A) (i : ℕ) (d y : A) → i < length xs → y ≡ f (slice_index_or xs i d) → take i xs ++ map f (drop i xs) ≡ target → take (i + 1) (slice_set xs i y) ++ map f (drop (i + 1) (slice_set xs i y)) ≡ target
  write-next xs target i d y h e so_far =
      let more : i + 1 ≡ suc i = omega arith in
      ap (λ k. take k (slice_set xs i y) ++ map f (drop k (slice_set xs i y))) more
      ∙ ap (λ z. take (suc i) (slice_set xs i z) ++ map f (drop (suc i) (slice_set xs i z))) e ∙ written xs i d h ∙ so_far
