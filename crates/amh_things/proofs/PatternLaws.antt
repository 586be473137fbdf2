-- Texts that are read as patterns, sign by sign.
use Rattle.std.proofs.Common.{◌≡◌, ◌≢◌, ℕ, ◌+◌, ◌-◌, ◌*◌, ◌/◌, ◌%◌, ◌<◌, ◌≤◌, ◌^◌, ◌==◌, ◌&&◌, Bool, true, false, not, if◌then◌else◌, bit_and, List, [], ◌∷◌, length, drop, get_or, drop-cons, refl, add-one, sym, ◌∙◌, ap, arith}
use Rattle.std.specs.List.{list_all}
use Rattle.std.proofs.lemmas.Bool.Decides.{nat_tests}
use Rattle.std.specs.Int.Bits.{and_step}
use Rattle.std.proofs.lemmas.Nat.{and_mask}
use Rattle.std.proofs.Math.Nat.{mod-eq_of_lt, pow-le-pow_right, pow-suc, mul_assoc, add-mul}
use Rattle.amh_things.specs.Patterns.{is_blank, is_sign, is_any_sign, is_one_sign, signs, bits_looked_at, bits_set, is_text_pattern, text_pattern}

-- ---- numbers

doubled : (count : ℕ) → 2 ^ (count + 1) ≡ 2 ^ count * 2
doubled count = rw (add-one) (pow-suc 2 count)

-- one bit more stays below the next power, and that is no number too large
pub doubled_below : (bits count : ℕ) → bits < 2 ^ count → 2 * bits + 1 < 2 ^ (count + 1)
doubled_below bits count below = omega (arith, doubled count)

pub doubled_fits : (bits count : ℕ) → count < 128 → bits < 2 ^ count → 2 * bits + 1 < 2 ^ 128
doubled_fits bits count few below =
    let more : count + 1 ≤ 128 = omega arith in
    let wide : 2 ^ (count + 1) ≤ 2 ^ 128 = pow-le-pow_right {n = 2} (omega arith) more in
    omega (arith, doubled_below bits count below, wide)

-- what a bit more is worth, where so many come behind it
weighed : (number bit power : ℕ) → (2 * number + bit) * power ≡ number * (power * 2) + bit * power
weighed number bit power = omega (arith, add-mul (2 * number) bit power, mul_assoc 2 number power, mul_assoc number power 2)

halved : (n : ℕ) (b : ℕ) → b ≤ 1 → ((2 * n + b) / 2 ≡ n) × ((2 * n + b) % 2 ≡ b)
halved n b few = (omega arith, omega arith)

-- bits within a mask stay so where one more of each comes below them
within_step : (x y : ℕ) (bits mask : ℕ) → y ≤ x → x ≤ 1 → bit_and bits mask ≡ bits → bit_and (2 * bits + y) (2 * mask + x) ≡ 2 * bits + y
within_step x y bits mask among few within =
    let b = halved bits y (omega arith) in
    let m = halved mask x few in
    and_step (2 * bits + y) (2 * mask + x) ∙ rw (b.0, b.1, m.0, m.1, within) (omega arith)

-- bits below a power of two are within the mask below it
pub low_within : (n width mask : ℕ) → n < 2 ^ width → mask ≡ 2 ^ width - 1 → bit_and n mask ≡ n
low_within n width mask low e = rw e (and_mask n width ∙ mod-eq_of_lt low)

bit_few : (b : Bool) → (if b then 1 else 0) ≤ 1
bit_few true = omega arith
bit_few false = omega arith

below_step : (b : Bool) (bits count : ℕ) → bits < 2 ^ count → 2 * bits + (if b then 1 else 0) < 2 ^ (count + 1)
below_step b bits count below = omega (arith, bit_few b, doubled_below bits count below)

looked_step : (any : Bool) (mask power rest all : ℕ) → mask * (power * 2) + ((if any then 0 else power) + rest) ≡ all → (2 * mask + (if not any then 1 else 0)) * power + rest ≡ all
looked_step true mask power rest all e = omega (arith, weighed mask 0 power)
looked_step false mask power rest all e = omega (arith, weighed mask 1 power)

set_step : (one : Bool) (bits power rest all : ℕ) → bits * (power * 2) + ((if one then power else 0) + rest) ≡ all → (2 * bits + (if one then 1 else 0)) * power + rest ≡ all
set_step true bits power rest all e = omega (arith, weighed bits 1 power)
set_step false bits power rest all e = omega (arith, weighed bits 0 power)

-- ---- signs

pub signs_blank : (c : ℕ) (text : List ℕ) → is_blank c ≡ true → signs (c ∷ text) ≡ signs text
signs_blank c text blank = ap (λ b. if not b then c ∷ signs text else signs text) blank

pub signs_sign : (c : ℕ) (text : List ℕ) → is_blank c ≡ false → signs (c ∷ text) ≡ c ∷ signs text
signs_sign c text sign = ap (λ b. if not b then c ∷ signs text else signs text) sign

-- a bit that is to be 1 is looked at
one_among : (c : ℕ) → (if is_one_sign c then 1 else 0) ≤ (if not (is_any_sign c) then 1 else 0)
one_among c = grind (arith, nat_tests)

-- what is read of the signs of a text, where these are left
pub record IsRead (all left : List ℕ) (count mask bits : ℕ) : Type 0 where
  pub signs_are : list_all is_sign left ≡ list_all is_sign all
  pub count_is : count + length left ≡ length all
  pub mask_is : mask * 2 ^ length left + bits_looked_at left ≡ bits_looked_at all
  pub bits_is : bits * 2 ^ length left + bits_set left ≡ bits_set all
  pub mask_below : mask < 2 ^ count
  pub bits_below : bits < 2 ^ count
  pub within : bit_and bits mask ≡ bits

pub nothing_read : (all : List ℕ) → IsRead all all 0 0 0
nothing_read all = record {
  signs_are = refl;
  count_is = omega arith;
  mask_is = omega arith;
  bits_is = omega arith;
  mask_below = omega arith;
  bits_below = omega arith;
  within = refl;
}

-- one sign more
pub sign_read : (all left : List ℕ) (c count mask bits : ℕ) → is_sign c ≡ true → IsRead all (c ∷ left) count mask bits
    → IsRead all left (count + 1) (2 * mask + (if not (is_any_sign c) then 1 else 0)) (2 * bits + (if is_one_sign c then 1 else 0))
sign_read all left c count mask bits sign r = record {
  signs_are = ap (λ b. b && list_all is_sign left) (sym sign) ∙ r.signs_are;
  count_is = omega arith;
  mask_is = looked_step (is_any_sign c) mask (2 ^ length left) (bits_looked_at left) (bits_looked_at all) (rw pow-suc at r.mask_is);
  bits_is = set_step (is_one_sign c) bits (2 ^ length left) (bits_set left) (bits_set all) (rw pow-suc at r.bits_is);
  mask_below = below_step (not (is_any_sign c)) mask count r.mask_below;
  bits_below = below_step (is_one_sign c) bits count r.bits_below;
  within = within_step (if not (is_any_sign c) then 1 else 0) (if is_one_sign c then 1 else 0) bits mask (one_among c) (bit_few (not (is_any_sign c))) r.within;
}

-- ---- the signs of a text from a place on

split_at : (text : List ℕ) (i : ℕ) → i < length text → drop i text ≡ get_or text i 0 ∷ drop (i + 1) text
split_at text i lt = rw (add-one) (drop-cons text i 0 lt)

pub blank_passed : (all text : List ℕ) (i count mask bits count' mask' bits' : ℕ) → i < length text → is_blank (get_or text i 0) ≡ true
    → count' ≡ count → mask' ≡ mask → bits' ≡ bits → IsRead all (signs (drop i text)) count mask bits → IsRead all (signs (drop (i + 1) text)) count' mask' bits'
blank_passed all text i count mask bits count' mask' bits' lt blank e f g r =
    let same : signs (drop i text) ≡ signs (drop (i + 1) text) = ap signs (split_at text i lt) ∙ signs_blank (get_or text i 0) (drop (i + 1) text) blank in
    rw (e, f, g) (rw same at r)

pub sign_taken : (all text : List ℕ) (i count mask bits count' mask' bits' : ℕ) → i < length text → is_blank (get_or text i 0) ≡ false → is_sign (get_or text i 0) ≡ true
    → count' ≡ count + 1 → mask' ≡ 2 * mask + (if not (is_any_sign (get_or text i 0)) then 1 else 0) → bits' ≡ 2 * bits + (if is_one_sign (get_or text i 0) then 1 else 0)
    → IsRead all (signs (drop i text)) count mask bits → IsRead all (signs (drop (i + 1) text)) count' mask' bits'
sign_taken all text i count mask bits count' mask' bits' lt blank sign e f g r =
    let same : signs (drop i text) ≡ get_or text i 0 ∷ signs (drop (i + 1) text) = ap signs (split_at text i lt) ∙ signs_sign (get_or text i 0) (drop (i + 1) text) blank in
    rw (e, f, g) (sign_read all (signs (drop (i + 1) text)) (get_or text i 0) count mask bits sign (rw same at r))

-- ---- the end

both : (a : Bool) (n m : ℕ) → a ≡ true → n ≡ m → (a && (n == m)) ≡ true
both true n m e f = grind (arith, nat_tests)
both false n m e f = cc

unequal : (a : Bool) (n m : ℕ) → n ≢ m → (a && (n == m)) ≡ false
unequal true n m f = grind (arith, nat_tests)
unequal false n m f = refl

pub text_read : (width : ℕ) (text : List ℕ) (mask bits : ℕ) → IsRead (signs text) [] width mask bits → (is_text_pattern width text ≡ true) × (text_pattern text ≡ record { mask = mask; bits = bits })
text_read width text mask bits r =
    let m : bits_looked_at (signs text) ≡ mask = omega (arith, r.mask_is) in
    let b : bits_set (signs text) ≡ bits = omega (arith, r.bits_is) in
    (both (list_all is_sign (signs text)) (length (signs text)) width (sym r.signs_are) (omega (arith, r.count_is)), cc)

pub short_read : (width : ℕ) (text : List ℕ) (count mask bits : ℕ) → count < width → IsRead (signs text) [] count mask bits → is_text_pattern width text ≡ false
short_read width text count mask bits few r = unequal (list_all is_sign (signs text)) (length (signs text)) width (omega (arith, r.count_is))

pub long_read : (width : ℕ) (text : List ℕ) (c : ℕ) (left : List ℕ) (mask bits : ℕ) → IsRead (signs text) (c ∷ left) width mask bits → is_text_pattern width text ≡ false
long_read width text c left mask bits r = unequal (list_all is_sign (signs text)) (length (signs text)) width (omega (arith, r.count_is))

pub wrong_read : (width : ℕ) (text : List ℕ) (c : ℕ) (left : List ℕ) (count mask bits : ℕ) → is_sign c ≡ false → IsRead (signs text) (c ∷ left) count mask bits → is_text_pattern width text ≡ false
wrong_read width text c left count mask bits wrong r =
    let all : false ≡ list_all is_sign (signs text) = ap (λ b. b && list_all is_sign left) (sym wrong) ∙ r.signs_are in
    ap (λ b. b && (length (signs text) == width)) (sym all)
