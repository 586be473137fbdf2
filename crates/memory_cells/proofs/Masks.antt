-- The mask of a write cell.
use Rattle.std.proofs.Common.{◌≡◌, ◌≤◌, ◌-◌, ℕ, zero, suc, Bool, true, false, ◌∷◌, ◌++◌, replicate, take, refl, sym, ap, ◌∙◌, arith}
use Rattle.rtlil_text.specs.MemoryRules.{priority_mask}

-- the first of n alike are fewer alike
take-replicate : (n m : ℕ) (b : Bool) → n ≤ m → take n (replicate m b) ≡ replicate n b
take-replicate zero m b h = refl
take-replicate (suc n) zero b h = absurd (omega (arith, h))
take-replicate (suc n) (suc m) b h = ap (λ r. b ∷ r) (take-replicate n m b (omega (arith, h)))

front : (n k m : ℕ) → k ≤ n → n ≤ m → take n (replicate k true ++ replicate m false) ≡ replicate k true ++ replicate (n - k) false
front n zero m h g = let e : n - zero ≡ n = omega arith in take-replicate n m false g ∙ ap (λ j. replicate j false) (sym e)
front zero (suc k) m h g = absurd (omega (arith, h))
front (suc n) (suc k) m h g = let e : suc n - suc k ≡ n - k = omega arith in ap (λ r. true ∷ r) (front n k m (omega (arith, h)) (omega (arith, g)) ∙ ap (λ j. replicate k true ++ replicate j false) (sym e))

pub priority_is : (n k : ℕ) → k ≤ n → replicate k true ++ replicate (n - k) false ≡ priority_mask n k
priority_is n k h = sym (front n k n h (omega arith))
