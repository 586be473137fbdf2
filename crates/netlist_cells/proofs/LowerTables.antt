-- How many items an index can pick.
use Rattle.std.proofs.Common.{◌≡◌, ◌<◌, ◌≤◌, ◌^◌, ℕ, min, List, length, take, ap, ◌∙◌, arith}
use Rattle.std.proofs.lemmas.List.{take_min}
use Rattle.std.proofs.Math.Nat.{pow-le-pow_right}

pub reached : {A : Type 0} (n k : ℕ) (xs : List A) → k ≡ min n (length xs) → take k xs ≡ take n xs
reached n k xs e = ap (λ j. take j xs) e ∙ take_min n xs

pub far_reach : (w count : ℕ) → 64 ≤ w → count < 2 ^ 64 → min (2 ^ w) count ≡ count
far_reach w count h lt = omega (arith, pow-le-pow_right {n = 2} (omega arith) h)
