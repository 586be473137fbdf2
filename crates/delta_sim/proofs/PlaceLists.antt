-- Lists of places that grow.
use Rattle.std.specs.Prelude.{◌≡◌, refl, ℕ, zero, suc, ◌+◌, ◌-◌, ◌≤◌, List, [], ◌∷◌, ◌++◌, map, length, take, replicate, Option, Some, None}
use Rattle.std.proofs.Common.{sym, ◌∙◌, ap, arith, append_assoc, zero-add}
use Rattle.std.proofs.lemmas.List.{replicate_more}
use Rattle.std.proofs.lemmas.List.FromFn.{map-range_with_len_more}
use Rattle.design_ir.specs.Targets.{Bit, bits_of, padded}

map_more : {A B : Type 0} (f : A → B) (xs : List A) (x : A) → map f (xs ++ x ∷ []) ≡ map f xs ++ f x ∷ []
map_more f [] x = refl
map_more f (y ∷ xs) x = ap (λ zs. f y ∷ zs) (map_more f xs x)

-- one bit of a signal more
pub bits_more : (s i : ℕ) → map (λ b. Some b) (bits_of s (i + 1)) ≡ map (λ b. Some b) (bits_of s i) ++ Some (record { sig = s; index = i }) ∷ []
bits_more s i =
    ap (map (λ b. Some b)) (map-range_with_len_more (λ k. record { sig = s; index = k }) 0 i i (zero-add i))
    ∙ map_more (λ b. Some b) (bits_of s i) (record { sig = s; index = i })

pub signal_turn : (s i : ℕ) (first now more : List (Option Bit)) → now ≡ first ++ map (λ b. Some b) (bits_of s i) → more ≡ now ++ Some (record { sig = s; index = i }) ∷ [] → more ≡ first ++ map (λ b. Some b) (bits_of s (i + 1))
signal_turn s i first now more known grown =
    grown ∙ ap (λ xs. xs ++ Some (record { sig = s; index = i }) ∷ []) known
    ∙ append_assoc first (map (λ b. Some b) (bits_of s i)) (Some (record { sig = s; index = i }) ∷ [])
    ∙ ap (λ xs. first ++ xs) (sym (bits_more s i))

pub pad_turn : {A : Type 0} (x : A) (n i : ℕ) (first now more : List A) → n ≤ i → now ≡ first ++ replicate (i - n) x → more ≡ now ++ x ∷ [] → more ≡ first ++ replicate (i + 1 - n) x
pad_turn x n i first now more le known grown =
    let next : i - n + 1 ≡ i + 1 - n = omega (arith, le) in
    grown ∙ ap (λ xs. xs ++ x ∷ []) known
    ∙ append_assoc first (replicate (i - n) x) (x ∷ [])
    ∙ ap (λ xs. first ++ xs) (replicate_more (i - n) x ∙ ap (λ k. replicate k x) next)

take_all : {A : Type 0} (x : A) (n m : ℕ) → n ≤ m → take n (replicate m x) ≡ replicate n x
take_all x zero zero le = refl
take_all x zero (suc m) le = refl
take_all x (suc n) zero le = absurd (omega (arith, le))
take_all x (suc n) (suc m) le = ap (λ xs. x ∷ xs) (take_all x n m (omega (arith, le)))

-- what is there, and as many more as are missing
pub filled : {A : Type 0} (x : A) (n m : ℕ) (xs : List A) → n ≤ m → take n (xs ++ replicate m x) ≡ take n xs ++ replicate (n - length (take n xs)) x
filled x zero m [] le = take_all x 0 m le
filled x zero m (y ∷ xs) le = refl
filled x (suc n) m [] le = let e : suc n - 0 ≡ suc n = omega arith in take_all x (suc n) m le ∙ ap (λ k. replicate k x) (sym e)
filled x (suc n) m (y ∷ xs) le =
    let e : n - length (take n xs) ≡ suc n - suc (length (take n xs)) = omega arith in
    ap (λ zs. y ∷ zs) (filled x n m xs (omega (arith, le)) ∙ ap (λ k. take n xs ++ replicate k x) e)

pub padded_is : (n : ℕ) (xs part all : List (Option Bit)) → part ≡ take n xs → all ≡ part ++ replicate (n - length part) None → all ≡ padded n xs
padded_is n xs part all cut grown =
    grown ∙ ap (λ ys. ys ++ replicate (n - length ys) None) cut ∙ sym (filled None n n xs (omega arith))
