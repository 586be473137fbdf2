-- Each decimal that is cut is one.
use Rattle.std.proofs.Common.{◌≡◌, ℕ, zero, suc, Bool, true, false, ◌+◌, ◌<◌, ◌≤◌, ◌&&◌, ◌||◌, ◌⊎◌, List, [], ◌∷◌, ◌++◌, length, take, drop, refl, ap, sym, subst, ◌∙◌, arith, cond, inl, inr, slice_index}
use Rattle.std.specs.Prelude.{nat_lt, ◌==◌}
use Rattle.std.specs.List.{list_all, prefix_len}
use Rattle.std.proofs.lemmas.Bool.{cond_both, cond-true, cond-false, eqb-true, ltb-true, leb-true, and_parts, and_from, or_cases, lt-ltb, le-ltb, cases_lt}
use Rattle.std.proofs.lemmas.List.{length-take-le, drop-drop}
use Rattle.std.proofs.Math.Seq.{take-add}
use Rattle.py_lexer.specs.Numbers.{is_digit, digit_count, value_from, sign_of_exponent, exponent_lead, fraction_count, pointed as pointed_width, parts_of, is_decimal, decimal_width, is_small}
use Rattle.py_lexer.specs.Grammar.{IsDigits, IsFraction, whole, pointed, IsMark, IsSignOfExponent, IsExponent, plain, signed, IsDecimal, fractional, exponential}

prefix_fits : (p : ℕ → Bool) (cs : List ℕ) → prefix_len p cs ≤ length cs
prefix_fits p [] = omega arith
prefix_fits p (c ∷ cs) = let h = prefix_fits p cs in cond_both (p c) (1 + prefix_len p cs) 0 (λ n. n ≤ suc (length cs)) (λ _. omega (arith, h)) (λ _. omega arith)

prefix_all : (p : ℕ → Bool) (cs : List ℕ) → list_all p (take (prefix_len p cs) cs) ≡ true
prefix_all p [] = refl
prefix_all p (c ∷ cs) =
    let more : suc (prefix_len p cs) ≡ 1 + prefix_len p cs = omega arith in
    cond_both (p c) (1 + prefix_len p cs) 0 (λ n. list_all p (take n (c ∷ cs)) ≡ true)
    (λ e. subst (λ n. list_all p (take n (c ∷ cs)) ≡ true) more (and_from (p c) (list_all p (take (prefix_len p cs) cs)) e (prefix_all p cs)))
    (λ _. refl)

pub count_prefix : (base : ℕ) (cs : List ℕ) → digit_count base cs ≡ prefix_len (is_digit base) cs
unfolding digit_count
count_prefix base cs = length-take-le (prefix_len (is_digit base) cs) cs (prefix_fits (is_digit base) cs)

-- the digits at the front, and no more characters than there are
pub digits_taken : (base : ℕ) (cs : List ℕ) → (list_all (is_digit base) (take (digit_count base cs) cs) ≡ true) × (digit_count base cs ≤ length cs)
digits_taken base cs =
    let e = sym (count_prefix base cs) in
    (subst (λ n. list_all (is_digit base) (take n cs) ≡ true) e (prefix_all (is_digit base) cs), subst (λ n. n ≤ length cs) e (prefix_fits (is_digit base) cs))

-- there is a digit where the first character is one
pub digits_begin : (base c : ℕ) (cs : List ℕ) → is_digit base c ≡ true → 0 < digit_count base (c ∷ cs)
digits_begin base c cs h =
    omega (arith, count_prefix base (c ∷ cs), cond-true (is_digit base c) (1 + prefix_len (is_digit base) cs) 0 h)

-- so many digits
taken : (n : ℕ) (cs : List ℕ) → n ≡ digit_count 10 cs → 0 < n → IsDigits (take n cs) × (length (take n cs) ≡ n)
taken n cs e p =
    let all = digits_taken 10 cs in
    let count : length (take n cs) ≡ n = length-take-le n cs (omega (arith, all.1)) in
    ((omega arith, subst (λ n. list_all (is_digit 10) (take n cs) ≡ true) (sym e) all.0), count)

pub pointed_more : (n : ℕ) → 0 < n → pointed_width n ≡ suc n
pointed_more n h = cond-true (nat_lt 0 n) (n + 1) 0 (lt-ltb 0 n h) ∙ omega arith

fraction_by : (n : ℕ) (cs : List ℕ) → n ≡ digit_count 10 cs → IsFraction n (take (pointed_width n) (46 ∷ cs))
fraction_by zero cs e = whole
fraction_by (suc k) cs e =
    let digits = taken (suc k) cs e (omega arith) in
    subst (λ w. IsFraction (suc k) (take w (46 ∷ cs))) (sym (pointed_more (suc k) (omega arith)))
    (subst (λ n. IsFraction n (46 ∷ take (suc k) cs)) digits.1 (pointed (take (suc k) cs) digits.0))

pointed_at : (cs : List ℕ) → slice_index cs 0 ≡ 46 → IsFraction (digit_count 10 (drop 1 cs)) (take (pointed_width (digit_count 10 (drop 1 cs))) cs)
pointed_at [] e = cc
pointed_at (x ∷ cs) e = subst (λ y. IsFraction (digit_count 10 cs) (take (pointed_width (digit_count 10 cs)) (y ∷ cs))) (sym e) (fraction_by (digit_count 10 cs) cs refl)

pub fraction_sound : (cs : List ℕ) → IsFraction (fraction_count cs) (take (pointed_width (fraction_count cs)) cs)
unfolding fraction_count
fraction_sound cs = cond_both (slice_index cs 0 == 46) (digit_count 10 (drop 1 cs)) 0 (λ n. IsFraction n (take (pointed_width n) cs)) (λ e. pointed_at cs (eqb-true _ _ e)) (λ _. whole)

abbrev ExponentAt : List ℕ → ℕ → Type 0
ExponentAt cs lead = 0 < lead → value_from 10 0 (take (digit_count 10 (drop lead cs)) (drop lead cs)) ≤ 18 → IsExponent (take (lead + digit_count 10 (drop lead cs)) cs)

no_digit : {A : Type 0} → is_digit 10 0 ≡ true → A
no_digit h = let q : false ≡ true = h in absurd cc

mark_of : (c : ℕ) → ((c == 101) || (c == 69)) ≡ true → IsMark c
mark_of c e = elim (or_cases (c == 101) (c == 69) e) as (λ _. IsMark c) [ inl t ↦ inl (eqb-true c 101 t) | inr t ↦ inr (eqb-true c 69 t) ]

sign_of : (c : ℕ) → ((c == 43) || (c == 45)) ≡ true → IsSignOfExponent c
sign_of c e = elim (or_cases (c == 43) (c == 45) e) as (λ _. IsSignOfExponent c) [ inl t ↦ inl (eqb-true c 43 t) | inr t ↦ inr (eqb-true c 45 t) ]

plain_at : (cs : List ℕ) → ((slice_index cs 0 == 101) || (slice_index cs 0 == 69)) ≡ true → is_digit 10 (slice_index cs 1) ≡ true → ExponentAt cs 1
plain_at [] m d h v = no_digit d
plain_at (c ∷ []) m d h v = no_digit d
plain_at (c ∷ x ∷ xs) m d h v =
    let n = digit_count 10 (x ∷ xs) in
    let width : suc n ≡ 1 + n = omega arith in
    subst (λ w. IsExponent (take w (c ∷ x ∷ xs))) width (plain c (take n (x ∷ xs)) (mark_of c m) (taken n (x ∷ xs) refl (digits_begin 10 x xs d)).0 v)

signed_at : (cs : List ℕ) → ((slice_index cs 0 == 101) || (slice_index cs 0 == 69)) ≡ true → ((slice_index cs 1 == 43) || (slice_index cs 1 == 45)) ≡ true → is_digit 10 (slice_index cs 2) ≡ true → ExponentAt cs 2
signed_at [] m s d h v = no_digit d
signed_at (c ∷ []) m s d h v = no_digit d
signed_at (c ∷ y ∷ []) m s d h v = no_digit d
signed_at (c ∷ y ∷ x ∷ xs) m s d h v =
    let n = digit_count 10 (x ∷ xs) in
    let width : suc (suc n) ≡ 2 + n = omega arith in
    subst (λ w. IsExponent (take w (c ∷ y ∷ x ∷ xs))) width (signed c y (take n (x ∷ xs)) (mark_of c m) (sign_of y s) (taken n (x ∷ xs) refl (digits_begin 10 x xs d)).0 v)

pub exponent_sound : (cs : List ℕ) → ExponentAt cs (exponent_lead cs)
unfolding exponent_lead
exponent_sound cs =
    let y = slice_index cs 1 in
    let mark = (slice_index cs 0 == 101) || (slice_index cs 0 == 69) in
    let sign = (y == 43) || (y == 45) in
    cond_both (mark && is_digit 10 (slice_index cs (1 + sign_of_exponent y))) (1 + sign_of_exponent y) 0 (ExponentAt cs)
    (λ e. let both = and_parts mark (is_digit 10 (slice_index cs (1 + sign_of_exponent y))) e in
    cond_both sign 1 0 (λ n. is_digit 10 (slice_index cs (1 + n)) ≡ true → ExponentAt cs (1 + n)) (λ s d. signed_at cs both.0 s d) (λ _ d. plain_at cs both.0 d) both.1)
    (λ _ h. absurd (omega arith))

-- digits, a fraction and an exponent, one behind the other
assembled : (cs : List ℕ) (w fr lead ex : ℕ) → w ≡ digit_count 10 cs → 0 < w → fr ≡ fraction_count (drop w cs) → lead ≡ exponent_lead (drop (w + pointed_width fr) cs) → ex ≡ cond (nat_lt 0 lead) (digit_count 10 (drop (w + pointed_width fr + lead) cs)) 0 → (0 < fr) ⊎ (0 < lead) → w + fr ≤ 18 → value_from 10 0 (take ex (drop (w + pointed_width fr + lead) cs)) ≤ 18 → IsDecimal (take (w + pointed_width fr + lead + ex) cs)
assembled cs w fr lead ex we wp fe le xe some few small =
    let pw = pointed_width fr in
    let digits = taken w cs we wp in
    let fraction : IsFraction fr (take pw (drop w cs)) = subst (λ n. IsFraction n (take (pointed_width n) (drop w cs))) (sym fe) (fraction_sound (drop w cs)) in
    let count : length (take w cs) + fr ≤ 18 = omega (arith, digits.1) in
    let behind : drop pw (drop w cs) ≡ drop (w + pw) cs = drop-drop pw w cs in
    elim (cases_lt 0 lead) as (λ _. IsDecimal (take (w + pw + lead + ex) cs)) [
      | inl p ↦
          let digits_of_ex : ex ≡ digit_count 10 (drop (w + pw + lead) cs) = xe ∙ cond-true (nat_lt 0 lead) _ _ (lt-ltb 0 lead p) in
          let farther : drop (w + pw + lead) cs ≡ drop lead (drop (w + pw) cs) = sym (drop-drop lead (w + pw) cs) in
          let at : ExponentAt (drop (w + pw) cs) lead = subst (λ l. ExponentAt (drop (w + pw) cs) l) (sym le) (exponent_sound (drop (w + pw) cs)) in
          let here : value_from 10 0 (take (digit_count 10 (drop (w + pw + lead) cs)) (drop (w + pw + lead) cs)) ≤ 18 = subst (λ n. value_from 10 0 (take n (drop (w + pw + lead) cs)) ≤ 18) digits_of_ex small in
          let there : value_from 10 0 (take (digit_count 10 (drop lead (drop (w + pw) cs))) (drop lead (drop (w + pw) cs))) ≤ 18 = subst (λ d. value_from 10 0 (take (digit_count 10 d) d) ≤ 18) farther here in
          let exponent : IsExponent (take (lead + ex) (drop (w + pw) cs)) = subst (λ n. IsExponent (take (lead + n) (drop (w + pw) cs))) (sym (digits_of_ex ∙ ap (digit_count 10) farther)) (at p there) in
          let sums : w + pw + lead + ex ≡ w + (pw + (lead + ex)) = omega arith in
          let split : take (w + pw + lead + ex) cs ≡ take w cs ++ (take pw (drop w cs) ++ take (lead + ex) (drop (w + pw) cs)) =
          ap (λ n. take n cs) sums ∙ (take-add w (pw + (lead + ex)) cs ∙ ap (λ r. take w cs ++ r) (take-add pw (lead + ex) (drop w cs) ∙ ap (λ r. take pw (drop w cs) ++ take (lead + ex) r) behind)) in
          subst IsDecimal (sym split) (exponential (take w cs) fr (take pw (drop w cs)) (take (lead + ex) (drop (w + pw) cs)) digits.0 fraction count exponent)
      | inr z ↦
          let none : lead ≡ 0 = omega arith in
          let no_ex : ex ≡ 0 = xe ∙ cond-false (nat_lt 0 lead) (digit_count 10 (drop (w + pw + lead) cs)) 0 (le-ltb 0 lead z) in
          let sums : w + pw + lead + ex ≡ w + pw = omega arith in
          let frac : 0 < fr = elim some as (λ _. 0 < fr) [ inl f ↦ f | inr l ↦ absurd (omega arith) ] in
          let split : take (w + pw + lead + ex) cs ≡ take w cs ++ take pw (drop w cs) = ap (λ n. take n cs) sums ∙ take-add w pw cs in
          subst IsDecimal (sym split) (fractional (take w cs) fr (take pw (drop w cs)) digits.0 fraction frac count)
    ]

-- the decimal at the front
pub decimal_sound : (c : ℕ) (cs : List ℕ) → is_digit 10 c ≡ true → is_decimal (parts_of (c ∷ cs)) ≡ true → is_small (parts_of (c ∷ cs)) (c ∷ cs) ≡ true → IsDecimal (take (decimal_width (parts_of (c ∷ cs))) (c ∷ cs))
unfolding parts_of
decimal_sound c cs d some small =
    let w = digit_count 10 (c ∷ cs) in
    let fr = fraction_count (drop w (c ∷ cs)) in
    let lead = exponent_lead (drop (w + pointed_width fr) (c ∷ cs)) in
    let both = and_parts _ _ small in
    let more : (0 < fr) ⊎ (0 < lead) = elim (or_cases (nat_lt 0 fr) (nat_lt 0 lead) some) as (λ _. (0 < fr) ⊎ (0 < lead)) [ inl f ↦ inl (ltb-true 0 fr f) | inr l ↦ inr (ltb-true 0 lead l) ] in
    assembled (c ∷ cs) w fr lead _ refl (digits_begin 10 c cs d) refl refl refl more (leb-true (w + fr) 18 both.0) (leb-true _ 18 both.1)
