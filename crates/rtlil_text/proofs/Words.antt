-- Texts that are cut where a blank, the end of a line or no digit stands.
use Rattle.std.proofs.Common.{◌≡◌, ◌⊎◌, ◌<◌, ◌≤◌, ℕ, List, [], ◌∷◌, ◌++◌, refl, arith, ⊎_elim}
use Rattle.std.specs.List.{AllByRecursion}

-- no byte of it is a blank, a line feed or another one up to 32
abbrev pub IsWord : List ℕ → Type 0
IsWord xs = AllByRecursion (λ x. 33 ≤ x) xs

-- all of it are digits
abbrev pub IsDigits : List ℕ → Type 0
IsDigits xs = AllByRecursion (λ x. (48 ≤ x) × (x ≤ 57)) xs

abbrev pub IsNoDigit : ℕ → Type 0
IsNoDigit c = (c < 48) ⊎ (57 < c)

pub append-cancel : (p a b : List ℕ) → p ++ a ≡ p ++ b → a ≡ b
append-cancel [] a b e = e
append-cancel (x ∷ p) a b e = let f : p ++ a ≡ p ++ b = cc in append-cancel p a b f

-- a word ends where the first blank or line feed stands
pub word-cut : (xs ys : List ℕ) (c d : ℕ) (r s : List ℕ) → IsWord xs → IsWord ys → c ≤ 32 → d ≤ 32 → xs ++ (c ∷ r) ≡ ys ++ (d ∷ s) → (xs ≡ ys) × (c ≡ d) × (r ≡ s)
word-cut [] [] c d r s h k p q e = (refl, cc, cc)
word-cut [] (y ∷ ys) c d r s h k p q e = let f : c ≡ y = cc in absurd (omega (arith, k.0, p, f))
word-cut (x ∷ xs) [] c d r s h k p q e = let f : x ≡ d = cc in absurd (omega (arith, h.0, q, f))
word-cut (x ∷ xs) (y ∷ ys) c d r s h k p q e =
    let f : x ≡ y = cc in
    let g : xs ++ (c ∷ r) ≡ ys ++ (d ∷ s) = cc in
    let w = word-cut xs ys c d r s h.1 k.1 p q g in
    ((λ i. f i ∷ w.0 i), w.1, w.2)

no_digit : (x c : ℕ) → (48 ≤ x) × (x ≤ 57) → IsNoDigit c → x ≡ c → ⊥
no_digit x c h n e = ⊎_elim (λ low. omega (arith, h.0, low, e)) (λ high. omega (arith, h.1, high, e)) n

-- digits end where the first other byte stands
pub digits-cut : (xs ys : List ℕ) (c d : ℕ) (r s : List ℕ) → IsDigits xs → IsDigits ys → IsNoDigit c → IsNoDigit d → xs ++ (c ∷ r) ≡ ys ++ (d ∷ s) → (xs ≡ ys) × (c ≡ d) × (r ≡ s)
digits-cut [] [] c d r s h k p q e = (refl, cc, cc)
digits-cut [] (y ∷ ys) c d r s h k p q e = let f : y ≡ c = cc in absurd (no_digit y c k.0 p f)
digits-cut (x ∷ xs) [] c d r s h k p q e = let f : x ≡ d = cc in absurd (no_digit x d h.0 q f)
digits-cut (x ∷ xs) (y ∷ ys) c d r s h k p q e =
    let f : x ≡ y = cc in
    let g : xs ++ (c ∷ r) ≡ ys ++ (d ∷ s) = cc in
    let w = digits-cut xs ys c d r s h.1 k.1 p q g in
    ((λ i. f i ∷ w.0 i), w.1, w.2)

pub IsWord-append : (xs ys : List ℕ) → IsWord xs → IsWord ys → IsWord (xs ++ ys)
IsWord-append [] ys h k = k
IsWord-append (x ∷ xs) ys h k = (h.0, IsWord-append xs ys h.1 k)

pub IsWord-digits : (xs : List ℕ) → IsDigits xs → IsWord xs
IsWord-digits [] h = tt
IsWord-digits (x ∷ xs) h = (omega (arith, h.0.0), IsWord-digits xs h.1)
