-- Which numbers are of a shape, by their sizes, and the shapes that hold what the operators give.
use Rattle.std.proofs.Common.{◌≡◌, ℕ, zero, suc, ◌+◌, ◌-◌, ◌*◌, ◌≤◌, ◌<◌, ◌^◌, ◌%◌, ℤ, pos, negsuc, neg_ℤ, ◌+ℤ◌, ◌-ℤ◌, ◌*ℤ◌, ◌≤ℤ◌, ◌<ℤ◌, Bool, true, false, refl, arith, unsigned_abs, bit_and}
use Rattle.std.proofs.lemmas.Int.{ints, unsigned_abs-mul}
use Rattle.std.proofs.lemmas.Nat.{pow-add, pow_pos, mul-lt, mul-le, and_le_l, or_lt, xor_lt, mod_below, column_fits, shl_below}
use Rattle.std.proofs.Math.Nat.{pow-le-pow_right, mul_assoc, div-le_self}
use Rattle.amh_bits.specs.Integers.{IsKept, int_not, int_and, int_or, int_xor, floor_quotient, floor_div, floor_rem}
use Rattle.amh_bits.specs.Patterns.{IsOf}
use Rattle.amh_bits.proofs.Remainders.{floor_rem-pos_pos, floor_rem-negsuc_pos, floor_rem-pos_negsuc, floor_rem-negsuc_negsuc, floor_rem-zero_negsuc}

power-more : (w : ℕ) → 2 ^ suc w ≡ 2 * 2 ^ w
power-more w = omega (arith, pow-add 2 1 w)

-- ---- wider shapes, and the range of what is kept

pub of_wider : (signed : Bool) (w v : ℕ) (z : ℤ) → w ≤ v → IsOf signed w z → IsOf signed v z
of_wider false w v (pos n) h f = omega (arith, pow-le-pow_right {n = 2} (omega arith) h)
of_wider false w v (negsuc n) h f = absurd f
of_wider true w v (pos n) h f = omega (arith, pow-le-pow_right {n = 2} (omega arith) h)
of_wider true w v (negsuc n) h f = omega (arith, pow-le-pow_right {n = 2} (omega arith) h)

-- a signed shape holds an unsigned one that is narrower
pub of_signed : (w v : ℕ) (z : ℤ) → suc w ≤ v → IsOf false w z → IsOf true v z
of_signed w v (pos n) h f = omega (arith, power-more w, pow-le-pow_right {n = 2} (omega arith) h)
of_signed w v (negsuc n) h f = absurd f

pub of_kept : (signed : Bool) (w : ℕ) (z : ℤ) → w ≤ 128 → IsOf signed w z → IsKept z
of_kept false w (pos n) h f = omega (arith, pow-le-pow_right {n = 2} (omega arith) h)
of_kept false w (negsuc n) h f = absurd f
of_kept true w (pos n) h f = omega (arith, pow-le-pow_right {n = 2} (omega arith) h)
of_kept true w (negsuc n) h f = omega (arith, pow-le-pow_right {n = 2} (omega arith) h)

-- ---- a shape by bounds

pub unsigned_low : (w : ℕ) (z : ℤ) → IsOf false w z → pos 0 ≤ℤ z
unsigned_low w (pos n) f = omega (arith, ints)
unsigned_low w (negsuc n) f = absurd f

pub unsigned_high : (w : ℕ) (z : ℤ) → IsOf false w z → z <ℤ pos (2 ^ w)
unsigned_high w (pos n) f = omega (arith, ints)
unsigned_high w (negsuc n) f = absurd f

pub unsigned_of : (w : ℕ) (z : ℤ) → pos 0 ≤ℤ z → z <ℤ pos (2 ^ w) → IsOf false w z
unsigned_of w (pos n) low high = omega (arith, ints)
unsigned_of w (negsuc n) low high = absurd (omega (arith, ints))

pub twice_low : (w : ℕ) (z : ℤ) → IsOf true w z → neg_ℤ (pos (2 ^ w)) ≤ℤ (z +ℤ z)
twice_low w (pos n) f = omega (arith, ints)
twice_low w (negsuc n) f = omega (arith, ints)

pub twice_high : (w : ℕ) (z : ℤ) → IsOf true w z → (z +ℤ z) <ℤ pos (2 ^ w)
twice_high w (pos n) f = omega (arith, ints)
twice_high w (negsuc n) f = omega (arith, ints)

pub of_twice : (w : ℕ) (z : ℤ) → neg_ℤ (pos (2 ^ w)) ≤ℤ (z +ℤ z) → (z +ℤ z) <ℤ pos (2 ^ w) → IsOf true w z
of_twice w (pos n) low high = omega (arith, ints)
of_twice w (negsuc n) low high = omega (arith, ints)

-- ---- sums, differences and opposites have one bit more

pub of-add : (signed : Bool) (w : ℕ) (x y : ℤ) → IsOf signed w x → IsOf signed w y → IsOf signed (suc w) (x +ℤ y)
of-add false w x y f g =
    let e = power-more w in
    let a = unsigned_low w x f in
    let b = unsigned_high w x f in
    let c = unsigned_low w y g in
    let d = unsigned_high w y g in
    unsigned_of (suc w) (x +ℤ y) (omega (arith, ints)) (omega (arith, ints))
of-add true w x y f g =
    let e = power-more w in
    let a = twice_low w x f in
    let b = twice_high w x f in
    let c = twice_low w y g in
    let d = twice_high w y g in
    of_twice (suc w) (x +ℤ y) (omega (arith, ints)) (omega (arith, ints))

pub of-sub : (signed : Bool) (w : ℕ) (x y : ℤ) → IsOf signed w x → IsOf signed w y → IsOf true (suc w) (x -ℤ y)
of-sub false w x y f g =
    let e = power-more w in
    let a = unsigned_low w x f in
    let b = unsigned_high w x f in
    let c = unsigned_low w y g in
    let d = unsigned_high w y g in
    of_twice (suc w) (x -ℤ y) (omega (arith, ints)) (omega (arith, ints))
of-sub true w x y f g =
    let e = power-more w in
    let a = twice_low w x f in
    let b = twice_high w x f in
    let c = twice_low w y g in
    let d = twice_high w y g in
    of_twice (suc w) (x -ℤ y) (omega (arith, ints)) (omega (arith, ints))

pub of-neg : (signed : Bool) (w : ℕ) (x : ℤ) → IsOf signed w x → IsOf true (suc w) (neg_ℤ x)
of-neg false w x f =
    let e = power-more w in
    let a = unsigned_low w x f in
    let b = unsigned_high w x f in
    of_twice (suc w) (neg_ℤ x) (omega (arith, ints)) (omega (arith, ints))
of-neg true w x f =
    let e = power-more w in
    let a = twice_low w x f in
    let b = twice_high w x f in
    of_twice (suc w) (neg_ℤ x) (omega (arith, ints)) (omega (arith, ints))

-- ---- sizes

pub signed_size : (w : ℕ) (z : ℤ) → IsOf true w z → 2 * unsigned_abs z ≤ 2 ^ w
signed_size w (pos n) f = omega arith
signed_size w (negsuc n) f = omega arith

pub unsigned_size : (w : ℕ) (z : ℤ) → IsOf false w z → unsigned_abs z < 2 ^ w
unsigned_size w (pos n) f = f
unsigned_size w (negsuc n) f = absurd f

pub of_size : (w : ℕ) (z : ℤ) → 2 * unsigned_abs z < 2 ^ w → IsOf true w z
of_size w (pos n) h = h
of_size w (negsuc n) h = omega arith

pub of_negative : (w n : ℕ) → 2 * n ≤ 2 ^ w → IsOf true w (neg_ℤ (pos n))
of_negative w zero h = omega (arith, pow_pos w)
of_negative w (suc n) h = omega arith

pub of_zero : (signed : Bool) (w : ℕ) → IsOf signed w (pos 0)
of_zero false w = pow_pos w
of_zero true w = omega (arith, pow_pos w)

pub of-abs : (signed : Bool) (w : ℕ) (x : ℤ) → IsOf signed w x → IsOf false w (pos (unsigned_abs x))
of-abs false w x f = unsigned_size w x f
of-abs true w x f = omega (arith, signed_size w x f, pow_pos w)

-- ---- products have the bits of both

pub of-mul_unsigned : (w v : ℕ) (x y : ℤ) → IsOf false w x → IsOf false v y → IsOf false (w + v) (x *ℤ y)
of-mul_unsigned w v (pos n) (pos m) f g = rw (pow-add 2 w v) (mul-lt n m (2 ^ w) (2 ^ v) f g)
of-mul_unsigned w v (pos n) (negsuc m) f g = absurd g
of-mul_unsigned w v (negsuc n) y f g = absurd f

-- twice a product, where the sizes have bounds of which one is not reached
double_product : (a b p q : ℕ) → 2 * a ≤ p → suc b ≤ q → 0 < p → 2 * (a * b) < p * q
double_product a b p q f g some =
    omega (arith, mul_assoc 2 a b, mul-le (2 * a) b p b f (omega arith), column_fits p b p q g (omega arith))

pub of-mul_signed : (w v : ℕ) (x y : ℤ) → IsOf true w x → unsigned_abs y < 2 ^ v → IsOf true (w + v) (x *ℤ y)
of-mul_signed w v x y f g =
    of_size (w + v) (x *ℤ y) (rw (unsigned_abs-mul x y, pow-add 2 w v) (double_product (unsigned_abs x) (unsigned_abs y) (2 ^ w) (2 ^ v) (signed_size w x f) g (pow_pos w)))

-- ---- bit by bit

-- of a signed shape, the bits but the highest
pub of_turned : (w n : ℕ) → n < 2 ^ w → IsOf true (suc w) (pos n) × IsOf true (suc w) (negsuc n)
of_turned w n h = let e = power-more w in (omega arith, omega arith)

pub turned_pos : (w n : ℕ) → IsOf true (suc w) (pos n) → n < 2 ^ w
turned_pos w n h = omega (arith, power-more w)

pub turned_negsuc : (w n : ℕ) → IsOf true (suc w) (negsuc n) → n < 2 ^ w
turned_negsuc w n h = omega (arith, power-more w)

and_lt : (w a b : ℕ) → a < 2 ^ w → bit_and a b < 2 ^ w
and_lt w a b h = omega (arith, and_le_l a b)

pub of-int_not : (w : ℕ) (x : ℤ) → IsOf true (suc w) x → IsOf true (suc w) (int_not x)
of-int_not w (pos n) f = (of_turned w n (turned_pos w n f)).1
of-int_not w (negsuc n) f = (of_turned w n (turned_negsuc w n f)).0

signed_and : (w : ℕ) (x y : ℤ) → IsOf true (suc w) x → IsOf true (suc w) y → IsOf true (suc w) (int_and x y)
signed_and w (pos a) (pos b) f g = (of_turned w _ (and_lt w a b (turned_pos w a f))).0
signed_and w (pos a) (negsuc b) f g = (of_turned w _ (xor_lt w a (bit_and a b) (turned_pos w a f) (and_lt w a b (turned_pos w a f)))).0
signed_and w (negsuc a) (pos b) f g = (of_turned w _ (xor_lt w b (bit_and b a) (turned_pos w b g) (and_lt w b a (turned_pos w b g)))).0
signed_and w (negsuc a) (negsuc b) f g = (of_turned w _ (or_lt w a b (turned_negsuc w a f) (turned_negsuc w b g))).1

pub of-int_and : (signed : Bool) (w : ℕ) (x y : ℤ) → (signed ≡ true → 1 ≤ w) → IsOf signed w x → IsOf signed w y → IsOf signed w (int_and x y)
of-int_and false w (pos a) (pos b) some f g = and_lt w a b f
of-int_and false w (pos a) (negsuc b) some f g = absurd g
of-int_and false w (negsuc a) y some f g = absurd f
of-int_and true zero x y some f g = absurd (omega (arith, some refl))
of-int_and true (suc w) x y some f g = signed_and w x y f g

pub of-int_or : (signed : Bool) (w : ℕ) (x y : ℤ) → (signed ≡ true → 1 ≤ w) → IsOf signed w x → IsOf signed w y → IsOf signed w (int_or x y)
of-int_or false w (pos a) (pos b) some f g = or_lt w a b f g
of-int_or false w (pos a) (negsuc b) some f g = absurd g
of-int_or false w (negsuc a) y some f g = absurd f
of-int_or true zero x y some f g = absurd (omega (arith, some refl))
of-int_or true (suc w) x y some f g = of-int_not w (int_and (int_not x) (int_not y)) (signed_and w (int_not x) (int_not y) (of-int_not w x f) (of-int_not w y g))

signed_xor : (w : ℕ) (x y : ℤ) → IsOf true (suc w) x → IsOf true (suc w) y → IsOf true (suc w) (int_xor x y)
signed_xor w (pos a) (pos b) f g = (of_turned w _ (xor_lt w a b (turned_pos w a f) (turned_pos w b g))).0
signed_xor w (pos a) (negsuc b) f g = (of_turned w _ (xor_lt w a b (turned_pos w a f) (turned_negsuc w b g))).1
signed_xor w (negsuc a) (pos b) f g = (of_turned w _ (xor_lt w a b (turned_negsuc w a f) (turned_pos w b g))).1
signed_xor w (negsuc a) (negsuc b) f g = (of_turned w _ (xor_lt w a b (turned_negsuc w a f) (turned_negsuc w b g))).0

pub of-int_xor : (signed : Bool) (w : ℕ) (x y : ℤ) → (signed ≡ true → 1 ≤ w) → IsOf signed w x → IsOf signed w y → IsOf signed w (int_xor x y)
of-int_xor false w (pos a) (pos b) some f g = xor_lt w a b f g
of-int_xor false w (pos a) (negsuc b) some f g = absurd g
of-int_xor false w (negsuc a) y some f g = absurd f
of-int_xor true zero x y some f g = absurd (omega (arith, some refl))
of-int_xor true (suc w) x y some f g = signed_xor w x y f g

-- ---- quotients

pub of-floor_quotient : (signed : Bool) (w k : ℕ) (x : ℤ) → IsOf signed w x → IsOf signed w (floor_quotient x k)
of-floor_quotient false w k (pos n) f = omega (arith, div-le_self n k)
of-floor_quotient false w k (negsuc n) f = absurd f
of-floor_quotient true w k (pos n) f = omega (arith, div-le_self n k)
of-floor_quotient true w k (negsuc n) f = omega (arith, div-le_self n k)

-- by a number that is not negative
pub of-floor_div_pos : (signed : Bool) (w m : ℕ) (x : ℤ) → IsOf signed w x → IsOf signed w (floor_div x (pos m))
of-floor_div_pos signed w zero x f = of_zero signed w
of-floor_div_pos signed w (suc m) x f = of-floor_quotient signed w (suc m) x f

pub of-floor_div_unsigned : (signed : Bool) (w v : ℕ) (x y : ℤ) → IsOf signed w x → IsOf false v y → IsOf signed w (floor_div x y)
of-floor_div_unsigned signed w v x (pos m) f g = of-floor_div_pos signed w m x f
of-floor_div_unsigned signed w v x (negsuc m) f g = absurd g

any_signed : (signed : Bool) (w : ℕ) (x : ℤ) → IsOf signed w x → IsOf true (suc w) x
any_signed false w x f = of_signed w (suc w) x (omega arith) f
any_signed true w x f = of_wider true w (suc w) x (omega arith) f

pub of-floor_div_signed : (signed : Bool) (w : ℕ) (x y : ℤ) → IsOf signed w x → IsOf true (suc w) (floor_div x y)
of-floor_div_signed signed w x (pos m) f = of-floor_div_pos true (suc w) m x (any_signed signed w x f)
of-floor_div_signed signed w x (negsuc m) f = of-floor_quotient true (suc w) (suc m) (neg_ℤ x) (of-neg signed w x f)

-- ---- remainders are of the divisor's shape

smaller_pos : (signed : Bool) (w m n : ℕ) → n ≤ m → IsOf signed w (pos m) → IsOf signed w (pos n)
smaller_pos false w m n h f = omega arith
smaller_pos true w m n h f = omega arith

smaller_neg : (signed : Bool) (w m n : ℕ) → n ≤ m → IsOf signed w (negsuc m) → IsOf signed w (neg_ℤ (pos n))
smaller_neg false w m n h f = absurd f
smaller_neg true w m n h f = of_negative w n (omega arith)

pub of-floor_rem : (signed : Bool) (w : ℕ) (x y : ℤ) → IsOf signed w y → IsOf signed w (floor_rem x y)
of-floor_rem signed w x (pos zero) f = of_zero signed w
of-floor_rem signed w (pos n) (pos (suc m)) f =
    rw (floor_rem-pos_pos n m) (smaller_pos signed w (suc m) (n % suc m) (omega (arith, mod_below n (suc m) (omega arith))) f)
of-floor_rem signed w (negsuc n) (pos (suc m)) f =
    rw (floor_rem-negsuc_pos n m) (smaller_pos signed w (suc m) (m - n % suc m) (omega arith) f)
of-floor_rem signed w (pos zero) (negsuc m) f = rw (floor_rem-zero_negsuc m) (of_zero signed w)
of-floor_rem signed w (pos (suc n)) (negsuc m) f =
    rw (floor_rem-pos_negsuc n m) (smaller_neg signed w m (m - n % suc m) (omega arith) f)
of-floor_rem signed w (negsuc n) (negsuc m) f =
    rw (floor_rem-negsuc_negsuc n m) (smaller_neg signed w m (suc n % suc m) (omega (arith, mod_below (suc n) (suc m) (omega arith))) f)

-- ---- shifts up

pub of-mul_power : (signed : Bool) (w k : ℕ) (x : ℤ) → IsOf signed w x → IsOf signed (w + k) (x *ℤ pos (2 ^ k))
of-mul_power false w k (pos n) f = shl_below n w k f
of-mul_power false w k (negsuc n) f = absurd f
of-mul_power true w k (pos n) f = rw (← mul_assoc 2 n (2 ^ k)) (shl_below (2 * n) w k f)
of-mul_power true w k (negsuc n) f =
    of_negative (w + k) (suc n * 2 ^ k) (omega (arith, mul_assoc 2 (suc n) (2 ^ k), pow-add 2 w k, mul-le (2 * suc n) (2 ^ k) (2 ^ w) (2 ^ k) (omega arith) (omega arith)))
