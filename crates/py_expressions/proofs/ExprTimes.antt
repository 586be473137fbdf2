-- Quotients digit by digit, and the times that they are.
use Rattle.std.proofs.Common.{◌≡◌, ℕ, zero, suc, ◌+◌, ◌-◌, ◌*◌, ◌/◌, ◌%◌, ◌^◌, ◌<◌, ◌≤◌, refl, ap, ◌∙◌, sym, Option, Some, None, nat_lt, Bool, true, false, if◌then◌else◌, arith}
use Rattle.std.proofs.lemmas.Bool.Decides.{nat_tests}
use Rattle.std.proofs.lemmas.Nat.{pow-add, div-mul-add, le-div}
use Rattle.std.proofs.Math.Nat.{mul-le-mul_left, mul-div-mul_right, div-div-eq-div-mul, one-le-pow}
use Rattle.std.specs.Prelude.{ℤ, pos, negsuc}
use Rattle.py_tree.specs.declared.number.Decimal.{Decimal}
use Rattle.py_tree.specs.declared.number.Amount.TheVariants as amount
use Rattle.py_frames.specs.Times.{kept_time, quotient_time, decimal_time, divided_time, scaled}
use Rattle.py_expressions.specs.Time_parts.{within_64, kept_of}
use Rattle.py_frames.proofs.ExprLaws.{is_less, is_not_less}

pub ten_more : (t : ℕ) → 10 ^ (t + 1) ≡ 10 ^ t * 10
ten_more t = pow-add 10 t 1

pub next_whole : (n q by r d s t : ℕ) → n * 10 ^ t ≡ q * by + r → 10 * r ≡ d * by + s → n * 10 ^ (t + 1) ≡ (q * 10 + d) * by + s
next_whole n q by r d s t e f =
    let g : n * 10 ^ (t + 1) ≡ n * (10 ^ t * 10) = ap (λ (z : ℕ). n * z) (ten_more t) in
    omega (arith, g, e, f)

pub some_ten : (t : ℕ) → 0 < 10 ^ t
some_ten t = let h : 1 ≤ 10 ^ t = one-le-pow t 10 (omega arith) in omega arith

-- a quotient past the limit stays past it, whatever zeros follow
pub past_limit : (n by q r t z : ℕ) → n * 10 ^ t ≡ q * by + r → t ≤ z → 18446744073709551616 ≤ q → 0 < by → None ≡ within_64 (n * 10 ^ z / by)
past_limit n by q r t z e le big positive =
    let g : 10 ^ z ≡ 10 ^ t * 10 ^ (z - t) = ap (λ (m : ℕ). 10 ^ m) (let h : z ≡ t + (z - t) = omega arith in h) ∙ pow-add 10 t (z - t) in
    let one_more : 1 ≤ 10 ^ (z - t) = some_ten (z - t) in
    let g2 : n * 10 ^ t * 1 ≤ n * 10 ^ t * 10 ^ (z - t) = mul-le-mul_left (n * 10 ^ t) one_more in
    let g3 : n * 10 ^ z ≡ n * (10 ^ t * 10 ^ (z - t)) = ap (λ (m : ℕ). n * m) g in
    let g4 : q * by ≤ n * 10 ^ z = omega (arith, g2, g3, e) in
    let g5 : q ≤ n * 10 ^ z / by = le-div q (n * 10 ^ z) by positive g4 in
    sym (ap (λ (b : Bool). if b then Some (n * 10 ^ z / by) else None) (is_not_less (n * 10 ^ z / by) 18446744073709551616 (omega (arith, g5, big))))

pub at_end : (n by q r z : ℕ) → n * 10 ^ z ≡ q * by + r → r < by → n * 10 ^ z / by ≡ q
at_end n by q r z e lt = ap (λ (m : ℕ). m / by) e ∙ div-mul-add q by r lt

pub within_some : (m q : ℕ) → m ≡ q → q < 18446744073709551616 → Some q ≡ within_64 m
within_some m q e h = sym (ap within_64 e ∙ ap (λ (b : Bool). if b then Some q else None) (is_less q 18446744073709551616 h))

pub within_none : (m q : ℕ) → m ≡ q → 18446744073709551616 ≤ q → None ≡ within_64 m
within_none m q e h = sym (ap within_64 e ∙ ap (λ (b : Bool). if b then Some q else None) (is_not_less q 18446744073709551616 h))

pub tens_more : (n t : ℕ) → n / 10 ^ t / 10 ≡ n / 10 ^ (t + 1)
tens_more n t = div-div-eq-div-mul n (10 ^ t) 10 ∙ ap (λ (m : ℕ). n / m) (sym (ten_more t))

-- ---- times

kept_past : (q : ℕ) → 18446744073709551616 ≤ q → None ≡ kept_time q
kept_past q h =
    let e : q % 2 < 2 = omega arith in
    sym (ap (λ (b : Bool). if b then Some (q - q % 2) else None) (is_not_less (q - q % 2) 9223372036854775808 (omega (arith, h, e))))

not_below : (a b : ℕ) → nat_lt a b ≡ false → b ≤ a
not_below a b h = grind (arith, nat_tests)

kept_by : (q : ℕ) (b : Bool) → nat_lt q 18446744073709551616 ≡ b → kept_of (if b then Some q else None) ≡ kept_time q
kept_by q true e = refl
kept_by q false e = kept_past q (not_below q 18446744073709551616 e)

pub kept_within : (q : ℕ) → kept_of (within_64 q) ≡ kept_time q
kept_within q = kept_by q (nat_lt q 18446744073709551616) refl

pub quotient_some : (a b : ℕ) → 0 < b → quotient_time a b ≡ kept_time (a * 10 ^ 15 / b)
quotient_some a zero h = absurd (omega arith)
quotient_some a (suc b) h = refl

kept_told : (m t : ℕ) (q k : Option ℕ) → q ≡ within_64 m → k ≡ kept_of q → m ≡ t → k ≡ kept_time t
kept_told m t q k e f g = f ∙ (ap kept_of e ∙ (kept_within m ∙ ap kept_time g))

pub decimal_zeros : (d : Decimal) (n e : ℕ) (q k : Option ℕ) → d.exponent ≡ pos e → n ≡ d.digits → q ≡ within_64 (n * 10 ^ (e + 15) / 1) → k ≡ kept_of q → k ≡ decimal_time d
decimal_zeros d n e q k x y f g =
    let p : 10 ^ (e + 15) ≡ 10 ^ e * 10 ^ 15 = pow-add 10 e 15 in
    let p2 : n * 10 ^ (e + 15) ≡ n * (10 ^ e * 10 ^ 15) = ap (λ (m : ℕ). n * m) p in
    let p3 : n * 10 ^ (e + 15) ≡ n * 10 ^ e * 10 ^ 15 = omega (arith, p2) in
    let p4 : n * 10 ^ (e + 15) / 1 ≡ d.digits * 10 ^ e * 10 ^ 15 / 1 = ap (λ (m : ℕ). m / 1) p3 ∙ ap (λ (m : ℕ). m * 10 ^ e * 10 ^ 15 / 1) y in
    kept_told (n * 10 ^ (e + 15) / 1) (d.digits * 10 ^ e * 10 ^ 15 / 1) q k f g p4
    ∙ ap (λ (z : ℤ). quotient_time (scaled d.digits z).above (scaled d.digits z).below) (sym x)

pub decimal_behind : (d : Decimal) (n e w : ℕ) (q k : Option ℕ) → d.exponent ≡ negsuc e → n ≡ d.digits → w ≡ n * 1000000000000000 / 10 ^ (e + 1) → q ≡ within_64 w → k ≡ kept_of q → k ≡ decimal_time d
decimal_behind d n e w q k x y v f g =
    let p : e + 1 ≡ suc e = omega arith in
    let p4 : w ≡ d.digits * 10 ^ 15 / 10 ^ suc e = v ∙ (ap (λ (m : ℕ). n * 1000000000000000 / 10 ^ m) p ∙ ap (λ (m : ℕ). m * 10 ^ 15 / 10 ^ suc e) y) in
    kept_told w (d.digits * 10 ^ 15 / 10 ^ suc e) q k f g p4
    ∙ (sym (quotient_some d.digits (10 ^ suc e) (some_ten (suc e)))
    ∙ ap (λ (z : ℤ). quotient_time (scaled d.digits z).above (scaled d.digits z).below) (sym x))

-- ---- quotients

zero_times : (n : ℕ) → 0 * n ≡ 0
zero_times n = omega arith

times_one : (n : ℕ) → n * 1 ≡ n
times_one n = omega arith

pub number_zero : (n m : ℕ) → m ≡ 0 → None ≡ divided_time n (amount.Number m)
number_zero n m e = ap (λ (z : ℕ). quotient_time (n * 1) z) (sym e)

pub number_by : (n m : ℕ) (q k : Option ℕ) → 0 < m → q ≡ within_64 (n * 10 ^ 15 / m) → k ≡ kept_of q → k ≡ divided_time n (amount.Number m)
number_by n m q k h f g =
    kept_told (n * 10 ^ 15 / m) (n * 10 ^ 15 / m) q k f g refl
    ∙ (sym (quotient_some n m h) ∙ ap (λ (z : ℕ). quotient_time z m) (sym (times_one n)))

positive_product : (a b : ℕ) → 0 < a → 0 < b → 0 < a * b
positive_product a b h i = let p : a * 1 ≤ a * b = mul-le-mul_left a (let s : 1 ≤ b = omega arith in s) in omega (arith, p)

-- nothing is divided by no digits, whatever the exponent
no_digits : (n m : ℕ) (z : ℤ) → m ≡ 0 → None ≡ quotient_time (n * (scaled m z).below) (scaled m z).above
no_digits n m (pos e) f =
    let p : m * 10 ^ e ≡ 0 = ap (λ (a : ℕ). a * 10 ^ e) f ∙ zero_times (10 ^ e) in
    ap (λ (a : ℕ). quotient_time (n * 1) a) (sym p)
no_digits n m (negsuc e) f = ap (λ (a : ℕ). quotient_time (n * 10 ^ suc e) a) (sym f)

pub zeros_few : (n by e : ℕ) (q k : Option ℕ) → e ≤ 15 → 0 < by → q ≡ within_64 (n * 10 ^ (15 - e) / by) → k ≡ kept_of q → k ≡ quotient_time n (by * 10 ^ e)
zeros_few n by e q k le h f g =
    let some : 0 < 10 ^ e = some_ten e in
    let p : 10 ^ 15 ≡ 10 ^ (15 - e) * 10 ^ e = ap (λ (m : ℕ). 10 ^ m) (let s : 15 ≡ 15 - e + e = omega arith in s) ∙ pow-add 10 (15 - e) e in
    let p2 : n * 10 ^ 15 ≡ n * (10 ^ (15 - e) * 10 ^ e) = ap (λ (m : ℕ). n * m) p in
    let p3 : n * 10 ^ 15 ≡ n * 10 ^ (15 - e) * 10 ^ e = omega (arith, p2) in
    let p4 : n * 10 ^ 15 / (by * 10 ^ e) ≡ n * 10 ^ (15 - e) / by = ap (λ (m : ℕ). m / (by * 10 ^ e)) p3 ∙ mul-div-mul_right (n * 10 ^ (15 - e)) by some in
    kept_told (n * 10 ^ (15 - e) / by) (n * 10 ^ 15 / (by * 10 ^ e)) q k f g (sym p4)
    ∙ sym (quotient_some n (by * 10 ^ e) (positive_product by (10 ^ e) h some))

pub zeros_many : (n by e w : ℕ) (q k : Option ℕ) → 15 < e → 0 < by → w ≡ n / by / 10 ^ (e - 15) → q ≡ within_64 w → k ≡ kept_of q → k ≡ quotient_time n (by * 10 ^ e)
zeros_many n by e w q k le h v f g =
    let some : 0 < 10 ^ e = some_ten e in
    let p : 10 ^ e ≡ 10 ^ (e - 15) * 10 ^ 15 = ap (λ (m : ℕ). 10 ^ m) (let s : e ≡ e - 15 + 15 = omega arith in s) ∙ pow-add 10 (e - 15) 15 in
    let p2 : by * 10 ^ e ≡ by * (10 ^ (e - 15) * 10 ^ 15) = ap (λ (m : ℕ). by * m) p in
    let p3 : by * 10 ^ e ≡ by * 10 ^ (e - 15) * 10 ^ 15 = omega (arith, p2) in
    let p4 : n * 10 ^ 15 / (by * 10 ^ e) ≡ n / (by * 10 ^ (e - 15)) = ap (λ (m : ℕ). n * 10 ^ 15 / m) p3 ∙ mul-div-mul_right n (by * 10 ^ (e - 15)) (let s : 0 < 10 ^ 15 = omega arith in s) in
    kept_told w (n * 10 ^ 15 / (by * 10 ^ e)) q k f g (v ∙ (div-div-eq-div-mul n by (10 ^ (e - 15)) ∙ sym p4))
    ∙ sym (quotient_some n (by * 10 ^ e) (positive_product by (10 ^ e) h some))

pub decimal_zero : (n m : ℕ) (d : Decimal) → m ≡ d.digits → m ≡ 0 → None ≡ divided_time n (amount.Decimal d)
decimal_zero n m d e f = no_digits n d.digits d.exponent (sym e ∙ f)

pub by_decimal_zeros : (n m e : ℕ) (d : Decimal) (k : Option ℕ) → d.exponent ≡ pos e → m ≡ d.digits → k ≡ quotient_time n (m * 10 ^ e) → k ≡ divided_time n (amount.Decimal d)
by_decimal_zeros n m e d k x y f =
    f ∙ (ap (λ (z : ℕ). quotient_time n (z * 10 ^ e)) y
    ∙ (ap (λ (z : ℕ). quotient_time z (d.digits * 10 ^ e)) (sym (times_one n))
    ∙ ap (λ (z : ℤ). quotient_time (n * (scaled d.digits z).below) (scaled d.digits z).above) (sym x)))

pub by_decimal_behind : (n m e : ℕ) (d : Decimal) (q k : Option ℕ) → d.exponent ≡ negsuc e → m ≡ d.digits → 0 < m → q ≡ within_64 (n * 10 ^ (e + 16) / m) → k ≡ kept_of q → k ≡ divided_time n (amount.Decimal d)
by_decimal_behind n m e d q k x y h f g =
    let p : 10 ^ (e + 16) ≡ 10 ^ suc e * 10 ^ 15 = ap (λ (z : ℕ). 10 ^ z) (let s : e + 16 ≡ suc e + 15 = omega arith in s) ∙ pow-add 10 (suc e) 15 in
    let p2 : n * 10 ^ (e + 16) ≡ n * (10 ^ suc e * 10 ^ 15) = ap (λ (z : ℕ). n * z) p in
    let p3 : n * 10 ^ (e + 16) ≡ n * 10 ^ suc e * 10 ^ 15 = omega (arith, p2) in
    kept_told (n * 10 ^ (e + 16) / m) (n * 10 ^ suc e * 10 ^ 15 / m) q k f g (ap (λ (z : ℕ). z / m) p3)
    ∙ (sym (quotient_some (n * 10 ^ suc e) m h)
    ∙ (ap (λ (z : ℕ). quotient_time (n * 10 ^ suc e) z) y
    ∙ ap (λ (z : ℤ). quotient_time (n * (scaled d.digits z).below) (scaled d.digits z).above) (sym x)))
