-- What patterns match.
use Rattle.std.proofs.Common.{◌≡◌, ℕ, suc, ◌+◌, ◌-◌, ◌*◌, ◌/◌, ◌%◌, ◌<◌, ◌≤◌, ◌^◌, ◌==◌, ◌&&◌, ◌||◌, Bool, true, false, if◌then◌else◌, bit_and, List, [], ◌∷◌, length, Some, refl, sym, ◌∙◌, ap, subst, arith}
use Rattle.std.specs.Prelude.{ℤ}
use Rattle.std.specs.List.{list_any}
use Rattle.std.specs.Ordering.{int_eq}
use Rattle.std.proofs.lemmas.Bool.Decides.{Decides-int_eq}
use Rattle.std.proofs.lemmas.Bool.{eqb-true, eq-eqb}
use Rattle.std.proofs.lemmas.Nat.{and_mod, and_shr, and_mask, and_comm, and_le_l, div-mul-add, mod-mul-add, div-add-mod'}
use Rattle.std.proofs.Math.Nat.{mod-eq_of_lt, pow-suc}
use Rattle.amh_bits.specs.Patterns.{IsOf, pattern, wrap, number, nat_bit}
use Rattle.amh_bits.proofs.Wraps.{pattern_below, wrap_same}
use Rattle.shape_rules.specs.Forms.{Form}
use Rattle.design_ir.specs.Values.{matches}
use Rattle.amh_things.specs.Patterns.{is_any_sign, is_one_sign, signs, bits_looked_at, bits_set, text_pattern, is_held, number_patterns}
use Rattle.amh_things.specs.Laws.{sign_fits, signs_fit}

-- ---- the highest of some bits, and the others

bit : Bool → ℕ
bit b = if b then 1 else 0

-- a number with one bit above so many others, and what another number has of it
and_above : (m low n k : ℕ) → low < 2 ^ k → bit_and (m * 2 ^ k + low) n ≡ bit_and m (n / 2 ^ k) * 2 ^ k + bit_and low n
and_above m low n k small =
    let all : ℕ = bit_and (m * 2 ^ k + low) n in
    let whole : all / 2 ^ k * 2 ^ k + all % 2 ^ k ≡ all = div-add-mod' all (2 ^ k) in
    let high : all / 2 ^ k ≡ bit_and m (n / 2 ^ k) = and_shr (m * 2 ^ k + low) n k ∙ ap (λ x. bit_and x (n / 2 ^ k)) (div-mul-add m (2 ^ k) low small) in
    let under : bit_and low n < 2 ^ k = omega (arith, and_le_l low n, small) in
    let same : bit_and low n ≡ bit_and low (n % 2 ^ k) = sym (mod-eq_of_lt under) ∙ and_mod low n k ∙ ap (λ x. bit_and x (n % 2 ^ k)) (mod-eq_of_lt small) in
    let lower : all % 2 ^ k ≡ bit_and low n = and_mod (m * 2 ^ k + low) n k ∙ ap (λ x. bit_and x (n % 2 ^ k)) (mod-mul-add m (2 ^ k) low small) ∙ sym same in
    sym whole ∙ ap (λ x. x * 2 ^ k + all % 2 ^ k) high ∙ ap (λ x. bit_and m (n / 2 ^ k) * 2 ^ k + x) lower

same_tests : (a b : Bool) → (a ≡ true → b ≡ true) → (b ≡ true → a ≡ true) → a ≡ b
same_tests true b f g = sym (f refl)
same_tests false true f g = g refl
same_tests false false f g = refl

both : (a b : Bool) → a ≡ true → b ≡ true → (a && b) ≡ true
both true b e f = f
both false b e f = cc

split : (a b : Bool) → (a && b) ≡ true → (a ≡ true) × (b ≡ true)
split true b e = (refl, e)
split false b e = absurd cc

-- two such numbers are one where both parts are
parts_equal : (p q low more k : ℕ) → low < 2 ^ k → more < 2 ^ k → ((p * 2 ^ k + low) == (q * 2 ^ k + more)) ≡ ((p == q) && (low == more))
parts_equal p q low more k small few = same_tests ((p * 2 ^ k + low) == (q * 2 ^ k + more)) ((p == q) && (low == more)) there back
  where
    there : ((p * 2 ^ k + low) == (q * 2 ^ k + more)) ≡ true → ((p == q) && (low == more)) ≡ true
    there e =
        let same = eqb-true (p * 2 ^ k + low) (q * 2 ^ k + more) e in
        let high : p ≡ q = sym (div-mul-add p (2 ^ k) low small) ∙ ap (λ x. x / 2 ^ k) same ∙ div-mul-add q (2 ^ k) more few in
        let under : low ≡ more = sym (mod-mul-add p (2 ^ k) low small) ∙ ap (λ x. x % 2 ^ k) same ∙ mod-mul-add q (2 ^ k) more few in
        both (p == q) (low == more) (eq-eqb p q high) (eq-eqb low more under)

    back : ((p == q) && (low == more)) ≡ true → ((p * 2 ^ k + low) == (q * 2 ^ k + more)) ≡ true
    back e =
        let parts = split (p == q) (low == more) e in
        let high : p ≡ q = eqb-true p q parts.0 in
        let under : low ≡ more = eqb-true low more parts.1 in
        eq-eqb (p * 2 ^ k + low) (q * 2 ^ k + more) (ap (λ x. x * 2 ^ k + low) high ∙ ap (λ x. q * 2 ^ k + x) under)

few_any : (b : Bool) (power : ℕ) → (if b then 0 else power) ≤ power
few_any true power = omega arith
few_any false power = omega arith

few_one : (b : Bool) (power : ℕ) → (if b then power else 0) ≤ power
few_one true power = omega arith
few_one false power = omega arith

bits_below : (cs : List ℕ) → (bits_looked_at cs < 2 ^ length cs) × (bits_set cs < 2 ^ length cs)
bits_below [] = (omega arith, omega arith)
bits_below (c ∷ cs) =
    let r = bits_below cs in
    let twice : 2 ^ suc (length cs) ≡ 2 ^ length cs * 2 = pow-suc 2 (length cs) in
    (omega (arith, r.0, few_any (is_any_sign c) (2 ^ length cs), twice), omega (arith, r.1, few_one (is_one_sign c) (2 ^ length cs), twice))

-- ---- signs

weighed_any : (b : Bool) (power : ℕ) → (if b then 0 else power) ≡ (if b then 0 else 1) * power
weighed_any true power = omega arith
weighed_any false power = omega arith

weighed_one : (b : Bool) (power : ℕ) → (if b then power else 0) ≡ (if b then 1 else 0) * power
weighed_one true power = omega arith
weighed_one false power = omega arith

not_one : (c : ℕ) → is_any_sign c ≡ true → is_one_sign c ≡ false
not_one c e = ap is_one_sign (eqb-true c 45 e)

sign_match : (c x : ℕ) → (bit_and (if is_any_sign c then 0 else 1) x == (if is_one_sign c then 1 else 0)) ≡ sign_fits c (x % 2)
sign_match c x = by_any (is_any_sign c) refl
  where
    by_any : (b : Bool) → is_any_sign c ≡ b → (bit_and (if b then 0 else 1) x == (if is_one_sign c then 1 else 0)) ≡ (b || (x % 2 == (if is_one_sign c then 1 else 0)))
    by_any true e = rw (not_one c e) refl
    by_any false e = ap (λ y. y == (if is_one_sign c then 1 else 0)) (and_comm 1 x ∙ and_mask x 1)

signs_match : (cs : List ℕ) (n : ℕ) → (bit_and (bits_looked_at cs) n == bits_set cs) ≡ signs_fit cs n
signs_match [] n = refl
signs_match (c ∷ cs) n =
    let k : ℕ = length cs in
    let any : ℕ = if is_any_sign c then 0 else 1 in
    let one : ℕ = if is_one_sign c then 1 else 0 in
    let below = bits_below cs in
    let under : bit_and (bits_looked_at cs) n < 2 ^ k = omega (arith, below.0, and_le_l (bits_looked_at cs) n) in
    ap (λ x. bit_and (x + bits_looked_at cs) n == ((if is_one_sign c then 2 ^ k else 0) + bits_set cs)) (weighed_any (is_any_sign c) (2 ^ k))
    ∙ ap (λ x. bit_and (any * 2 ^ k + bits_looked_at cs) n == (x + bits_set cs)) (weighed_one (is_one_sign c) (2 ^ k))
    ∙ ap (λ x. x == (one * 2 ^ k + bits_set cs)) (and_above any (bits_looked_at cs) n k below.0)
    ∙ parts_equal (bit_and any (n / 2 ^ k)) one (bit_and (bits_looked_at cs) n) (bits_set cs) k under below.1
    ∙ ap (λ b. b && (bit_and (bits_looked_at cs) n == bits_set cs)) (sign_match c (n / 2 ^ k))
    ∙ ap (λ b. sign_fits c (nat_bit n k) && b) (signs_match cs n)

pub texts_matched : (text : List ℕ) (n : ℕ) → matches (text_pattern text) n ≡ signs_fit (signs text) n
texts_matched text n = signs_match (signs text) n

-- ---- integers

int_same : (x y : ℤ) → x ≡ y → int_eq x y ≡ true
int_same x y e = (Decides-int_eq x y).1 e

int_is : (x y : ℤ) → int_eq x y ≡ true → x ≡ y
int_is x y e = (Decides-int_eq x y).0 e

or_false : (a : Bool) → (a || false) ≡ a
or_false true = refl
or_false false = refl

module _ (f : Form) (n x : ℤ) (h : IsOf f.signed f.width x) where
  whole : bit_and (2 ^ f.width - 1) (pattern f.width x) ≡ pattern f.width x
  whole = and_comm (2 ^ f.width - 1) (pattern f.width x) ∙ and_mask (pattern f.width x) f.width ∙ mod-eq_of_lt (pattern_below f.width x)

  held_matches : is_held f n ≡ true → (bit_and (2 ^ f.width - 1) (pattern f.width x) == pattern f.width n) ≡ int_eq x n
  held_matches e = same_tests (bit_and (2 ^ f.width - 1) (pattern f.width x) == pattern f.width n) (int_eq x n)
      (λ t. let same : pattern f.width x ≡ pattern f.width n = sym whole ∙ eqb-true (bit_and (2 ^ f.width - 1) (pattern f.width x)) (pattern f.width n) t in
      int_same x n (sym (wrap_same f.signed f.width x h) ∙ ap (number f.signed f.width) same ∙ int_is (wrap f.signed f.width n) n e))
      (λ t. eq-eqb (bit_and (2 ^ f.width - 1) (pattern f.width x)) (pattern f.width n) (whole ∙ ap (pattern f.width) (int_is x n t)))

  other_matches : is_held f n ≡ false → false ≡ int_eq x n
  other_matches e = same_tests false (int_eq x n) (λ t. absurd cc)
      (λ t. let P : ℤ → Type 0 = λ z. wrap f.signed f.width z ≡ z in
      let own : wrap f.signed f.width n ≡ n = subst P (int_is x n t) (wrap_same f.signed f.width x h) in
      let held : is_held f n ≡ true = int_same (wrap f.signed f.width n) n own in absurd cc)

  by_held : (b : Bool) → is_held f n ≡ b → list_any (λ p. matches p (pattern f.width x)) (if b then record { mask = 2 ^ f.width - 1; bits = pattern f.width n } ∷ [] else []) ≡ int_eq x n
  by_held true e = or_false (bit_and (2 ^ f.width - 1) (pattern f.width x) == pattern f.width n) ∙ held_matches e
  by_held false e = other_matches e

  pub integers_matched : list_any (λ p. matches p (pattern f.width x)) (number_patterns f (Some n)) ≡ int_eq x n
  integers_matched = by_held (is_held f n) refl
