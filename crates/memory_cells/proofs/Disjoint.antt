-- The bits of one number where a mask has none, and those of another where it has one.
use Rattle.std.proofs.Common.{◌≡◌, ℕ, zero, suc, ◌+◌, ◌-◌, ◌*◌, ◌<◌, ◌^◌, ◌/◌, ◌%◌, ◌==◌, pos, negsuc, true, false, if◌then◌else◌, refl, sym, ◌∙◌, ap, arith, bit_and}
use Rattle.std.proofs.lemmas.Bool.{false≢true}
use Rattle.std.proofs.lemmas.Nat.{shr-shr, mod_below, pow-add}
use Rattle.std.proofs.Math.Nat.{div-one}
use Rattle.amh_bits.specs.Integers.{bits_without}
use Rattle.amh_bits.specs.Patterns.{nat_bit, IsOf}
use Rattle.amh_bits.proofs.BitsOf.{nat_bit_low, int_bit_and}
use Rattle.amh_bits.proofs.InShape.{of-int_and, of_turned, turned_pos}

-- ---- a fact on bits, by their cases

pub one_bit : (P : ℕ → Type 0) (b : ℕ) → b < 2 → P 0 → P 1 → P b
one_bit P zero h p q = p
one_bit P (suc zero) h p q = q
one_bit P (suc (suc n)) h p q = absurd (omega (arith, h))

two_bits : (P : ℕ → ℕ → Type 0) (x y : ℕ) → x < 2 → y < 2 → P 0 0 → P 0 1 → P 1 0 → P 1 1 → P x y
two_bits P x y p q a b c d = one_bit (λ x. P x y) x p (one_bit (P 0) y q a b) (one_bit (P 1) y q c d)

three_bits : (P : ℕ → ℕ → ℕ → Type 0) (x y z : ℕ) → x < 2 → y < 2 → z < 2 → P 0 0 0 → P 0 0 1 → P 0 1 0 → P 0 1 1 → P 1 0 0 → P 1 0 1 → P 1 1 0 → P 1 1 1 → P x y z
three_bits P x y z p q r a b c d e f g h =
    one_bit (λ x. P x y z) x p (two_bits (P 0) y z q r a b c d) (two_bits (P 1) y z q r e f g h)

-- ---- numbers without a common bit

abbrev pub AreDisjoint : ℕ → ℕ → Type 0
AreDisjoint x y = (k : ℕ) → nat_bit x k * nat_bit y k ≡ 0

pub half_bit : (n k : ℕ) → nat_bit (n / 2) k ≡ nat_bit n (suc k)
half_bit n k = ap (λ x. x % 2) (shr-shr n 1 k ∙ ap (λ j. n / 2 ^ j) (omega arith))

pub first_bit : (n : ℕ) → nat_bit n 0 ≡ n % 2
first_bit n = ap (λ x. x % 2) (div-one n)

disjoint_halves : (x y : ℕ) → AreDisjoint x y → AreDisjoint (x / 2) (y / 2)
disjoint_halves x y h k = (λ i. half_bit x k i * half_bit y k i) ∙ h (suc k)

no_carry : (x y : ℕ) → AreDisjoint x y → x % 2 + y % 2 < 2
no_carry x y h =
    let low : nat_bit x 0 * nat_bit y 0 ≡ x % 2 * (y % 2) = (λ i. first_bit x i * first_bit y i) in
    two_bits (λ a b. a * b ≡ 0 → a + b < 2) (x % 2) (y % 2) (mod_below x 2 (omega arith)) (mod_below y 2 (omega arith)) (λ e. omega arith) (λ e. omega arith) (λ e. omega arith) (λ e. absurd (omega (arith, e))) (sym low ∙ h 0)

pub bit-sum : (k x y : ℕ) → AreDisjoint x y → nat_bit (x + y) k ≡ nat_bit x k + nat_bit y k
bit-sum zero x y h =
    let low = no_carry x y h in
    let e : (x + y) % 2 ≡ x % 2 + y % 2 = omega (arith, low) in
    let both : nat_bit x 0 + nat_bit y 0 ≡ x % 2 + y % 2 = (λ i. first_bit x i + first_bit y i) in
    first_bit (x + y) ∙ e ∙ sym both
bit-sum (suc k) x y h =
    let low = no_carry x y h in
    let e : (x + y) / 2 ≡ x / 2 + y / 2 = omega (arith, low) in
    sym (half_bit (x + y) k) ∙ ap (λ n. nat_bit n k) e ∙ bit-sum k (x / 2) (y / 2) (disjoint_halves x y h) ∙ (λ i. half_bit x k i + half_bit y k i)

pub sum_below : (w x y : ℕ) → x < 2 ^ w → y < 2 ^ w → AreDisjoint x y → x + y < 2 ^ w
sum_below zero x y p q h = omega (arith, p, q)
sum_below (suc w) x y p q h =
    let e : 2 ^ suc w ≡ 2 ^ w * 2 = ap (λ j. 2 ^ j) (omega arith) ∙ pow-add 2 w 1 in
    let low = no_carry x y h in
    let more = sum_below w (x / 2) (y / 2) (omega (arith, p, e)) (omega (arith, q, e)) (disjoint_halves x y h) in
    omega (arith, e, low, more)

-- ---- the bits of a, and those of c where b has one

merged : (a b c : ℕ) → ℕ
merged a b c = bits_without a b + bit_and c b

without_bit : (a b k : ℕ) → nat_bit (bits_without a b) k ≡ nat_bit a k * (1 - nat_bit b k)
without_bit a b k = int_bit_and (pos a) (negsuc b) k

with_bit : (c b k : ℕ) → nat_bit (bit_and c b) k ≡ nat_bit c k * nat_bit b k
with_bit c b k = int_bit_and (pos c) (pos b) k

merged_disjoint : (a b c : ℕ) → AreDisjoint (bits_without a b) (bit_and c b)
merged_disjoint a b c k =
    (λ i. without_bit a b k i * with_bit c b k i)
    ∙ three_bits (λ x y z. x * (1 - y) * (z * y) ≡ 0) (nat_bit a k) (nat_bit b k) (nat_bit c k) (nat_bit_low a k) (nat_bit_low b k) (nat_bit_low c k) refl refl refl refl refl refl refl refl

pub merged_bit : (a b c k : ℕ) → (nat_bit (bits_without a b + bit_and c b) k == 1) ≡ (if nat_bit b k == 1 then nat_bit c k == 1 else nat_bit a k == 1)
merged_bit a b c k =
    ap (λ n. n == 1) (bit-sum k (bits_without a b) (bit_and c b) (merged_disjoint a b c) ∙ (λ i. without_bit a b k i + with_bit c b k i))
    ∙ three_bits (λ x y z. (x * (1 - y) + z * y == 1) ≡ (if y == 1 then z == 1 else x == 1)) (nat_bit a k) (nat_bit b k) (nat_bit c k) (nat_bit_low a k) (nat_bit_low b k) (nat_bit_low c k) refl refl refl refl refl refl refl refl

pub merged_below : (w a b c : ℕ) → a < 2 ^ w → b < 2 ^ w → c < 2 ^ w → bits_without a b + bit_and c b < 2 ^ w
merged_below w a b c p q r =
    let left : IsOf true (suc w) (pos (bits_without a b)) = of-int_and true (suc w) (pos a) (negsuc b) (λ _. omega arith) (of_turned w a p).0 (of_turned w b q).1 in
    let right : bit_and c b < 2 ^ w = of-int_and false w (pos c) (pos b) (λ e. absurd (false≢true e)) r q in
    sum_below w (bits_without a b) (bit_and c b) (turned_pos w (bits_without a b) left) right (merged_disjoint a b c)
