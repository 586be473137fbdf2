-- Numerals: digits alone, no two numbers have one, and those below 2^64 are what `{}` writes.
use Rattle.std.proofs.Common.{◌≡◌, ◌∙◌, ◌<◌, ◌≤◌, ◌+◌, ◌-◌, ◌*◌, ◌/◌, ◌%◌, ◌^◌, ◌==◌, ℕ, zero, suc, Bool, true, false, if◌then◌else◌, List, [], ◌∷◌, refl, sym, ap, subst, arith}
use Rattle.std.specs.Fmt.{decimal, digits, digits_onto, digit_glyph}
use Rattle.std.proofs.Math.Nat.{pow-suc}
use Rattle.std.proofs.lemmas.Bool.{lt-ltb, eqb-true, eqb-false}
use Rattle.std.proofs.lemmas.Nat.{mod_below}
use Rattle.rtlil_text.specs.Numerals.{numeral}
use Rattle.rtlil_text.proofs.Words.{IsWord, IsDigits, IsWord-digits}

-- ---- one digit or more

glyph : (d : ℕ) → d < 10 → digit_glyph false d ≡ 48 + d
glyph d h = rw (lt-ltb d 10 h) refl

last_digit : (n : ℕ) → (48 ≤ digit_glyph false (n % 10)) × (digit_glyph false (n % 10) ≤ 57)
last_digit n =
    let b : n % 10 < 10 = mod_below n 10 (omega arith) in
    let e = glyph (n % 10) b in
    (omega (arith, e), omega (arith, e, b))

onto-digits : (k n : ℕ) (acc : List ℕ) → IsDigits acc → IsDigits (digits_onto k 10 false n acc)
onto-digits zero n acc h = h
onto-digits (suc k) n acc h = by (n / 10 == 0) (onto-digits k (n / 10) (digit_glyph false (n % 10) ∷ acc) (last_digit n, h))
  where
    by : (b : Bool) → IsDigits (digits_onto k 10 false (n / 10) (digit_glyph false (n % 10) ∷ acc)) → IsDigits (if b then digit_glyph false (n % 10) ∷ acc else digits_onto k 10 false (n / 10) (digit_glyph false (n % 10) ∷ acc))
    by true more = (last_digit n, h)
    by false more = more

pub IsDigits-numeral : (n : ℕ) → IsDigits (numeral n)
unfolding numeral
IsDigits-numeral n = onto-digits (suc n) n [] tt

pub IsWord-numeral : (n : ℕ) → IsWord (numeral n)
IsWord-numeral n = IsWord-digits (numeral n) (IsDigits-numeral n)

-- a decimal that `{}` writes is a word too
pub IsWord-decimal : (n : ℕ) → IsWord (decimal n)
unfolding digits
IsWord-decimal n = IsWord-digits (decimal n) (onto-digits 64 n [] tt)

onto-some : (k n x : ℕ) (acc : List ℕ) → (y : ℕ) × (ys : List ℕ) × (digits_onto k 10 false n (x ∷ acc) ≡ y ∷ ys)
onto-some zero n x acc = (x, acc, refl)
onto-some (suc k) n x acc = by (n / 10 == 0) (onto-some k (n / 10) (digit_glyph false (n % 10)) (x ∷ acc))
  where
    by : (b : Bool) → ((y : ℕ) × (ys : List ℕ) × (digits_onto k 10 false (n / 10) (digit_glyph false (n % 10) ∷ x ∷ acc) ≡ y ∷ ys))
        → (y : ℕ) × (ys : List ℕ) × ((if b then digit_glyph false (n % 10) ∷ x ∷ acc else digits_onto k 10 false (n / 10) (digit_glyph false (n % 10) ∷ x ∷ acc)) ≡ y ∷ ys)
    by true more = (digit_glyph false (n % 10), x ∷ acc, refl)
    by false more = more

onto-first : (k n : ℕ) → (y : ℕ) × (ys : List ℕ) × (digits_onto (suc k) 10 false n [] ≡ y ∷ ys)
onto-first k n = by (n / 10 == 0) (onto-some k (n / 10) (digit_glyph false (n % 10)) [])
  where
    by : (b : Bool) → ((y : ℕ) × (ys : List ℕ) × (digits_onto k 10 false (n / 10) (digit_glyph false (n % 10) ∷ []) ≡ y ∷ ys))
        → (y : ℕ) × (ys : List ℕ) × ((if b then digit_glyph false (n % 10) ∷ [] else digits_onto k 10 false (n / 10) (digit_glyph false (n % 10) ∷ [])) ≡ y ∷ ys)
    by true more = (digit_glyph false (n % 10), [], refl)
    by false more = more

-- its first byte is a digit
pub numeral-first : (n : ℕ) → (y : ℕ) × (ys : List ℕ) × (48 ≤ y) × (y ≤ 57) × (numeral n ≡ y ∷ ys)
unfolding numeral
numeral-first n =
    let w = onto-first n n in
    let h : IsDigits (w.0 ∷ w.1) = subst IsDigits w.2 (onto-digits (suc n) n [] tt) in
    (w.0, w.1, h.0.0, h.0.1, w.2)

-- ---- no two numbers have one numeral

-- the number of these digits behind a number
unfoldable pub number_of : ℕ → List ℕ → ℕ
number_of a [] = a
number_of a (d ∷ ds) = number_of (10 * a + (d - 48)) ds

last_value : (n : ℕ) → digit_glyph false (n % 10) - 48 ≡ n % 10
last_value n = let b : n % 10 < 10 = mod_below n 10 (omega arith) in let e = glyph (n % 10) b in omega (arith, e)

positive : (a : ℕ) → (a ≡ 0 → ⊥) → 1 ≤ a
positive zero p = absurd (p refl)
positive (suc a) p = omega arith

onto-number : (k n : ℕ) (acc : List ℕ) → n < k → number_of 0 (digits_onto k 10 false n acc) ≡ number_of n acc
unfolding number_of
onto-number zero n acc h = absurd (omega (arith, h))
onto-number (suc k) n acc h = by (n / 10 == 0) refl (onto-number k (n / 10) (digit_glyph false (n % 10) ∷ acc))
  where
    by : (b : Bool) → (n / 10 == 0) ≡ b → (n / 10 < k → number_of 0 (digits_onto k 10 false (n / 10) (digit_glyph false (n % 10) ∷ acc)) ≡ number_of (n / 10) (digit_glyph false (n % 10) ∷ acc))
        → number_of 0 (if b then digit_glyph false (n % 10) ∷ acc else digits_onto k 10 false (n / 10) (digit_glyph false (n % 10) ∷ acc)) ≡ number_of n acc
    by true e more =
        let last = last_value n in
        let small = eqb-true (n / 10) 0 e in
        let is : 10 * 0 + (digit_glyph false (n % 10) - 48) ≡ n = omega (arith, last, small) in
        ap (λ a. number_of a acc) is
    by false e more =
        let last = last_value n in
        let large : 1 ≤ n / 10 = positive (n / 10) (eqb-false (n / 10) 0 e) in
        let is : 10 * (n / 10) + (digit_glyph false (n % 10) - 48) ≡ n = omega (arith, last) in
        more (omega (arith, h, large)) ∙ ap (λ a. number_of a acc) is

pub numeral-injective : (m n : ℕ) → numeral m ≡ numeral n → m ≡ n
unfolding numeral number_of
numeral-injective m n e = sym (onto-number (suc m) m [] (omega arith)) ∙ ap (number_of 0) e ∙ onto-number (suc n) n [] (omega arith)

-- ---- what the code writes

-- one turn
turn : (k n : ℕ) (acc : List ℕ) (b : Bool) → (n / 10 == 0) ≡ b → digits_onto (suc k) 10 false n acc ≡ (if b then digit_glyph false (n % 10) ∷ acc else digits_onto k 10 false (n / 10) (digit_glyph false (n % 10) ∷ acc))
turn k n acc b e = ap (λ (x : Bool). if x then digit_glyph false (n % 10) ∷ acc else digits_onto k 10 false (n / 10) (digit_glyph false (n % 10) ∷ acc)) e

tenth : (k n : ℕ) → n < 10 ^ suc (suc k) → n / 10 < 10 ^ suc k
tenth k n h = let p = pow-suc 10 (suc k) in omega (arith, h, p)

-- one digit alone
alone : (n : ℕ) → n < 10 ^ suc zero → (n / 10 == 0) ≡ true
alone n h = let e : n / 10 ≡ 0 = omega (arith, h) in rw e refl

-- the same digits, however many more there might be
onto-same : (k j n : ℕ) (acc : List ℕ) → n < 10 ^ suc k → n < 10 ^ suc j → digits_onto (suc k) 10 false n acc ≡ digits_onto (suc j) 10 false n acc
onto-same zero j n acc p q = turn zero n acc true (alone n p) ∙ sym (turn j n acc true (alone n p))
onto-same (suc k) zero n acc p q = turn (suc k) n acc true (alone n q) ∙ sym (turn zero n acc true (alone n q))
onto-same (suc k) (suc j) n acc p q = by (n / 10 == 0) refl (onto-same k j (n / 10) (digit_glyph false (n % 10) ∷ acc) (tenth k n p) (tenth j n q))
  where
    by : (b : Bool) → (n / 10 == 0) ≡ b → digits_onto (suc k) 10 false (n / 10) (digit_glyph false (n % 10) ∷ acc) ≡ digits_onto (suc j) 10 false (n / 10) (digit_glyph false (n % 10) ∷ acc)
        → digits_onto (suc (suc k)) 10 false n acc ≡ digits_onto (suc (suc j)) 10 false n acc
    by true e more = turn (suc k) n acc true e ∙ sym (turn (suc j) n acc true e)
    by false e more = turn (suc k) n acc false e ∙ more ∙ sym (turn (suc j) n acc false e)

below_power : (n : ℕ) → n < 10 ^ suc n
below_power zero = omega arith
below_power (suc n) = let h = below_power n in let p = pow-suc 10 (suc n) in omega (arith, h, p)

pub numeral_is_decimal : (n : ℕ) → n < 10 ^ 64 → numeral n ≡ decimal n
unfolding numeral digits
numeral_is_decimal n h = onto-same n 63 n [] (below_power n) h

-- what `{}` writes of a number of the code
pub decimal_is_numeral : (n : ℕ) → n < 2 ^ 64 → decimal n ≡ numeral n
decimal_is_numeral n h = sym (numeral_is_decimal n (omega (arith, h)))
