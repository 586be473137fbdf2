-- No number is longer than the one that is cut.
use Rattle.std.proofs.Common.{◌≡◌, ℕ, suc, true, false, ◌+◌, ◌<◌, ◌≤◌, ◌&&◌, ◌||◌, ◌⊎◌, List, [], ◌∷◌, ◌++◌, length, drop, refl, ap, sym, subst, ◌∙◌, arith, cond, inl, inr, slice_index, length-append, append_assoc}
use Rattle.std.specs.Prelude.{nat_lt, ◌==◌}
use Rattle.std.specs.List.{list_all}
use Rattle.std.proofs.lemmas.Bool.{cond_both, cond-true, cond-false, eqb-true, eq-eqb, ne_eqb, lt-ltb, le-ltb, and_parts, and_from, and_left, or_from, or_left, or_right, both_ways}
use Rattle.std.proofs.Math.Seq.{drop-append_seam, drop-append-add}
use Rattle.std.proofs.lemmas.List.{drop-drop}
use Rattle.py_lexer.specs.declared.numbers.Numeral.{Numeral}
use Rattle.py_lexer.specs.Numbers.{is_digit, is_run, run_width, digit_count, named_base, numeral_by, numeral_of, sign_of_exponent, exponent_lead, fraction_count, pointed as pointed_width, parts_of, is_decimal, decimal_width}
use Rattle.py_lexer.specs.Grammar.{IsGrouped, single, digit, apart, IsNumber, nothing, decimal, based, IsDigits, IsFraction, whole, pointed, IsMark, IsSignOfExponent, IsExponent, plain, signed, IsDecimal, fractional, exponential}
use Rattle.py_lexer.proofs.NumeralLaws.{run_more}
use Rattle.py_lexer.proofs.DecimalLaws.{pointed_more}
use Rattle.py_lexer.proofs.ReachLists.{count_reach, count_exact, count_more, count_none}

first_digit : (base : ℕ) (ds b : List ℕ) → IsGrouped base ds → is_digit base (slice_index (ds ++ b) 0) ≡ true
first_digit base ds b (single d h) = h
first_digit base ds b (digit d more h g) = h
first_digit base ds b (apart d more h g) = h

run_under : (base : ℕ) (xs : List ℕ) → is_digit base (slice_index xs 0) ≡ true → run_width base (95 ∷ xs) ≡ suc (run_width base xs)
unfolding run_width
run_under base xs h = cond-true (is_run base 95 xs) (suc (run_width base xs)) 0 (or_right (is_digit base 95) ((95 == 95) && is_digit base (slice_index xs 0)) (and_from (95 == 95) (is_digit base (slice_index xs 0)) refl h))

run_reach : (base : ℕ) (ds b : List ℕ) → IsGrouped base ds → length ds ≤ run_width base (ds ++ b)
run_reach base ds b (single d h) = omega (arith, run_more base d b h)
run_reach base ds b (digit d more h g) = omega (arith, run_more base d (more ++ b) h, run_reach base more b g)
run_reach base ds b (apart d more h g) = omega (arith, run_more base d (95 ∷ (more ++ b)) h, run_under base (more ++ b) (first_digit base more b g), run_reach base more b g)

first_same : (base : ℕ) (ds b : List ℕ) → IsGrouped base ds → slice_index (ds ++ b) 0 ≡ slice_index ds 0
first_same base ds b (single d h) = refl
first_same base ds b (digit d more h g) = refl
first_same base ds b (apart d more h g) = refl

-- no whole number is longer than the numeral at the front
pub numeral_reach : (other b : List ℕ) → IsNumber other → length other ≤ (numeral_of (other ++ b)).width
unfolding numeral_of
numeral_reach other b nothing =
    let base = named_base (slice_index b 0) in
    cond_both (nat_lt 0 base && is_digit base (slice_index (48 ∷ b) 2)) (record { base = base; prefix = 2; width = 2 + run_width base (drop 2 (48 ∷ b)) }) (record { base = 10; prefix = 0; width = 1 }) (λ (n : Numeral). 1 ≤ n.width) (λ _. omega arith) (λ _. omega arith)
numeral_reach other b (decimal ds g z v) =
    let X = ds ++ b in
    cond_both (slice_index X 0 == 48) (numeral_by (named_base (slice_index X 1)) X) (record { base = 10; prefix = 0; width = run_width 10 X }) (λ (n : Numeral). length ds ≤ n.width)
    (λ e. absurd (z (sym (first_same 10 ds b g) ∙ eqb-true _ 48 e)))
    (λ _. run_reach 10 ds b g)
numeral_reach other b (based letter ds p g v) =
    let base = named_base letter in
    let X = 48 ∷ letter ∷ (ds ++ b) in
    let found : numeral_by base X ≡ record { base = base; prefix = 2; width = 2 + run_width base (ds ++ b) } =
    cond-true (nat_lt 0 base && is_digit base (slice_index (ds ++ b) 0)) _ _ (and_from (nat_lt 0 base) _ (lt-ltb 0 base p) (first_digit base ds b g)) in
    omega (arith, run_reach base ds b g, ap (λ (n : Numeral). n.width) found)

-- the first character behind the digits
abbrev behind_digits : List ℕ → ℕ
behind_digits X = slice_index (drop (digit_count 10 X) X) 0

fraction_none : (Y : List ℕ) → (slice_index Y 0 ≡ 46 → ⊥) → fraction_count Y ≡ 0
unfolding fraction_count
fraction_none Y h = cond-false (slice_index Y 0 == 46) (digit_count 10 (drop 1 Y)) 0 (ne_eqb _ 46 h)

lead_none : (Y : List ℕ) → (slice_index Y 0 ≡ 101 → ⊥) → (slice_index Y 0 ≡ 69 → ⊥) → exponent_lead Y ≡ 0
unfolding exponent_lead
lead_none Y h k =
    let lead = 1 + sign_of_exponent (slice_index Y 1) in
    cond-false (((slice_index Y 0 == 101) || (slice_index Y 0 == 69)) && is_digit 10 (slice_index Y lead)) lead 0
    (and_left ((slice_index Y 0 == 101) || (slice_index Y 0 == 69)) (is_digit 10 (slice_index Y lead)) (or_from (slice_index Y 0 == 101) (slice_index Y 0 == 69) (ne_eqb _ 101 h) (ne_eqb _ 69 k)))

fraction_is : (X : List ℕ) → (parts_of X).fraction ≡ fraction_count (drop (digit_count 10 X) X)
unfolding parts_of
fraction_is X = refl

mantissa_is : (X : List ℕ) → (parts_of X).mantissa ≡ digit_count 10 X + pointed_width (parts_of X).fraction
unfolding parts_of
mantissa_is X = refl

lead_is : (X : List ℕ) → (parts_of X).lead ≡ exponent_lead (drop (parts_of X).mantissa X)
unfolding parts_of
lead_is X = refl

exponent_is : (X : List ℕ) → (parts_of X).exponent ≡ cond (nat_lt 0 (parts_of X).lead) (digit_count 10 (drop ((parts_of X).mantissa + (parts_of X).lead) X)) 0
unfolding parts_of
exponent_is X = refl

neither : (f l : ℕ) → f ≡ 0 → l ≡ 0 → (nat_lt 0 f || nat_lt 0 l) ≡ false
neither f l e g = or_from (nat_lt 0 f) (nat_lt 0 l) (le-ltb 0 f (omega (arith, e))) (le-ltb 0 l (omega (arith, g)))

-- without a point, an `e` or an `E` behind the digits there is no decimal
not_decimal : (X : List ℕ) (y : ℕ) → behind_digits X ≡ y → (y ≡ 46 → ⊥) → (y ≡ 101 → ⊥) → (y ≡ 69 → ⊥) → is_decimal (parts_of X) ≡ false
not_decimal X y e point small large =
    let w = digit_count 10 X in
    let none : (parts_of X).fraction ≡ 0 = fraction_is X ∙ fraction_none (drop w X) (λ h. point (sym e ∙ h)) in
    let short : (parts_of X).mantissa ≡ w = mantissa_is X ∙ (ap (λ f. w + pointed_width f) none ∙ omega arith) in
    let lead : (parts_of X).lead ≡ 0 = lead_is X ∙ (ap (λ n. exponent_lead (drop n X)) short ∙ lead_none (drop w X) (λ h. small (sym e ∙ h)) (λ h. large (sym e ∙ h))) in
    neither (parts_of X).fraction (parts_of X).lead none lead

-- digits, or a `_` behind them
grouped_digits : (ds b : List ℕ) → IsGrouped 10 ds → (length ds ≤ digit_count 10 (ds ++ b)) ⊎ (behind_digits (ds ++ b) ≡ 95)
grouped_digits ds b (single d h) = inl (omega (arith, count_more 10 d b h))
grouped_digits ds b (digit d more h g) =
    let count = count_more 10 d (more ++ b) h in
    elim (grouped_digits more b g) as (λ _. (length (d ∷ more) ≤ digit_count 10 (d ∷ (more ++ b))) ⊎ (behind_digits (d ∷ (more ++ b)) ≡ 95)) [
      | inl l ↦ inl (omega (arith, l, count))
      | inr e ↦ inr (ap (λ n. slice_index (drop n (d ∷ (more ++ b))) 0) count ∙ e)
    ]
grouped_digits ds b (apart d more h g) =
    let count = count_more 10 d (95 ∷ (more ++ b)) h ∙ ap suc (count_none 10 95 (more ++ b) refl) in
    inr (ap (λ n. slice_index (drop n (d ∷ 95 ∷ (more ++ b))) 0) count)

letters : (c : ℕ) → 0 < named_base c → (c ≡ 120) ⊎ ((c ≡ 111) ⊎ (c ≡ 98))
letters c =
    let P : ℕ → Type 0 = λ n. 0 < n → (c ≡ 120) ⊎ ((c ≡ 111) ⊎ (c ≡ 98)) in
    cond_both (c == 120) 16 (cond (c == 111) 8 (cond (c == 98) 2 0)) P (λ e _. inl (eqb-true c 120 e))
    (λ _. cond_both (c == 111) 8 (cond (c == 98) 2 0) P (λ e _. inr (inl (eqb-true c 111 e)))
    (λ _. cond_both (c == 98) 2 0 P (λ e _. inr (inr (eqb-true c 98 e))) (λ _ h. absurd (omega arith))))

-- where there is a decimal, a whole number there is of its first digits
pub whole_reach : (other b : List ℕ) → IsNumber other → is_decimal (parts_of (other ++ b)) ≡ true → length other ≤ digit_count 10 (other ++ b)
whole_reach other b nothing t = omega (arith, count_more 10 48 b refl)
whole_reach other b (decimal ds g z v) t =
    elim (grouped_digits ds b g) as (λ _. length ds ≤ digit_count 10 (ds ++ b)) [
      | inl l ↦ l
      | inr e ↦ absurd (both_ways (is_decimal (parts_of (ds ++ b))) (not_decimal (ds ++ b) 95 e (λ h. omega (arith, h)) (λ h. omega (arith, h)) (λ h. omega (arith, h))) t)
    ]
whole_reach other b (based letter ds p g v) t =
    let X = 48 ∷ letter ∷ (ds ++ b) in
    let by = λ (l : ℕ) (e : letter ≡ l) (f : is_digit 10 l ≡ false) (a : l ≡ 46 → ⊥) (s : l ≡ 101 → ⊥) (u : l ≡ 69 → ⊥).
    let none : is_digit 10 letter ≡ false = subst (λ x. is_digit 10 x ≡ false) (sym e) f in
    let count : digit_count 10 X ≡ 1 = count_more 10 48 (letter ∷ (ds ++ b)) refl ∙ ap suc (count_none 10 letter (ds ++ b) none) in
    let behind : behind_digits X ≡ l = ap (λ n. slice_index (drop n X) 0) count ∙ e in
    both_ways (is_decimal (parts_of X)) (not_decimal X l behind a s u) t in
    absurd (elim (letters letter p) as (λ _. ⊥) [
      | inl e ↦ by 120 e refl (λ h. omega (arith, h)) (λ h. omega (arith, h)) (λ h. omega (arith, h))
      | inr o ↦ elim o as (λ _. ⊥) [
        | inl e ↦ by 111 e refl (λ h. omega (arith, h)) (λ h. omega (arith, h)) (λ h. omega (arith, h))
        | inr e ↦ by 98 e refl (λ h. omega (arith, h)) (λ h. omega (arith, h)) (λ h. omega (arith, h))
      ]
    ])

-- a decimal at the front is told as one, at least as long
abbrev pub DecimalReach : List ℕ → ℕ → Type 0
DecimalReach X n = (is_decimal (parts_of X) ≡ true) × (n ≤ decimal_width (parts_of X))

-- with an exponent behind the digits and the fraction
tail_reach : (X E : List ℕ) → drop (parts_of X).mantissa X ≡ E → 0 < exponent_lead E → (is_decimal (parts_of X) ≡ true) × (decimal_width (parts_of X) ≡ (parts_of X).mantissa + (exponent_lead E + digit_count 10 (drop (exponent_lead E) E)))
tail_reach X E e p =
    let m = (parts_of X).mantissa in
    let lead : (parts_of X).lead ≡ exponent_lead E = lead_is X ∙ ap exponent_lead e in
    let some : 0 < (parts_of X).lead = omega (arith, lead) in
    let there : drop (m + (parts_of X).lead) X ≡ drop (exponent_lead E) E = sym (drop-drop (parts_of X).lead m X) ∙ (ap (drop (parts_of X).lead) e ∙ ap (λ n. drop n E) lead) in
    let digits : (parts_of X).exponent ≡ digit_count 10 (drop (exponent_lead E) E) =
    exponent_is X ∙ (cond-true (nat_lt 0 (parts_of X).lead) (digit_count 10 (drop (m + (parts_of X).lead) X)) 0 (lt-ltb 0 _ some) ∙ ap (digit_count 10) there) in
    (or_right (nat_lt 0 (parts_of X).fraction) (nat_lt 0 (parts_of X).lead) (lt-ltb 0 _ some), omega (arith, lead, digits))

mark_test : (c : ℕ) → IsMark c → ((c == 101) || (c == 69)) ≡ true
mark_test c m = elim m as (λ _. ((c == 101) || (c == 69)) ≡ true) [ inl e ↦ or_left (c == 101) (c == 69) (eq-eqb c 101 e) | inr e ↦ or_right (c == 101) (c == 69) (eq-eqb c 69 e) ]

sign_test : (c : ℕ) → IsSignOfExponent c → sign_of_exponent c ≡ 1
sign_test c m = cond-true ((c == 43) || (c == 45)) 1 0 (elim m as (λ _. ((c == 43) || (c == 45)) ≡ true) [ inl e ↦ or_left (c == 43) (c == 45) (eq-eqb c 43 e) | inr e ↦ or_right (c == 43) (c == 45) (eq-eqb c 45 e) ])

digit_no_sign : (d : ℕ) → is_digit 10 d ≡ true → sign_of_exponent d ≡ 0
digit_no_sign d h =
    cond-false ((d == 43) || (d == 45)) 1 0 (or_from (d == 43) (d == 45)
    (ne_eqb d 43 (λ e. both_ways (is_digit 10 d) (subst (λ x. is_digit 10 x ≡ false) (sym e) refl) h))
    (ne_eqb d 45 (λ e. both_ways (is_digit 10 d) (subst (λ x. is_digit 10 x ≡ false) (sym e) refl) h)))

digits_first : (ds b : List ℕ) → IsDigits ds → is_digit 10 (slice_index (ds ++ b) 0) ≡ true
digits_first [] b d = absurd (omega (arith, d.0))
digits_first (x ∷ xs) b d = (and_parts (is_digit 10 x) (list_all (is_digit 10) xs) d.1).0

abbrev LeadBy : ℕ → List ℕ → ℕ → ℕ
LeadBy mark rest s = cond (((mark == 101) || (mark == 69)) && is_digit 10 (slice_index (mark ∷ rest) (1 + s))) (1 + s) 0

plain_lead : (mark : ℕ) (rest : List ℕ) → IsMark mark → is_digit 10 (slice_index rest 0) ≡ true → exponent_lead (mark ∷ rest) ≡ 1
unfolding exponent_lead
plain_lead mark rest m d =
    let base : LeadBy mark rest 0 ≡ 1 = cond-true (((mark == 101) || (mark == 69)) && is_digit 10 (slice_index rest 0)) 1 0 (and_from ((mark == 101) || (mark == 69)) _ (mark_test mark m) d) in
    ap (LeadBy mark rest) (digit_no_sign (slice_index rest 0) d) ∙ base

signed_lead : (mark sign : ℕ) (rest : List ℕ) → IsMark mark → IsSignOfExponent sign → is_digit 10 (slice_index rest 0) ≡ true → exponent_lead (mark ∷ sign ∷ rest) ≡ 2
unfolding exponent_lead
signed_lead mark sign rest m s d =
    let base : LeadBy mark (sign ∷ rest) 1 ≡ 2 = cond-true (((mark == 101) || (mark == 69)) && is_digit 10 (slice_index rest 0)) 2 0 (and_from ((mark == 101) || (mark == 69)) _ (mark_test mark m) d) in
    ap (LeadBy mark (sign ∷ rest)) (sign_test sign s) ∙ base

-- an exponent begins with its mark, and reaches over its digits
pub record ExponentReach (exponent b : List ℕ) : Type 0 where
  pub mark : ℕ
  pub rest : List ℕ
  pub split : exponent ++ b ≡ mark ∷ rest
  pub marks : IsMark mark
  pub some : 0 < exponent_lead (mark ∷ rest)
  pub reach : length exponent ≤ exponent_lead (mark ∷ rest) + digit_count 10 (drop (exponent_lead (mark ∷ rest)) (mark ∷ rest))

exponent_reach : (exponent b : List ℕ) → IsExponent exponent → ExponentReach exponent b
exponent_reach exponent b (plain mark ds m d v) =
    let lead = plain_lead mark (ds ++ b) m (digits_first ds b d) in
    record {
      mark = mark;
      rest = ds ++ b;
      split = refl;
      marks = m;
      some = omega (arith, lead);
      reach = omega (arith, lead, ap (λ n. digit_count 10 (drop n (mark ∷ (ds ++ b)))) lead, count_reach 10 ds b d.1);
    }
exponent_reach exponent b (signed mark sign ds m s d v) =
    let lead = signed_lead mark sign (ds ++ b) m s (digits_first ds b d) in
    record {
      mark = mark;
      rest = sign ∷ (ds ++ b);
      split = refl;
      marks = m;
      some = omega (arith, lead);
      reach = omega (arith, lead, ap (λ n. digit_count 10 (drop n (mark ∷ sign ∷ (ds ++ b)))) lead, count_reach 10 ds b d.1);
    }

mark_no_digit : (c : ℕ) → IsMark c → is_digit 10 c ≡ false
mark_no_digit c m = elim m as (λ _. is_digit 10 c ≡ false) [ inl e ↦ subst (λ x. is_digit 10 x ≡ false) (sym e) refl | inr e ↦ subst (λ x. is_digit 10 x ≡ false) (sym e) refl ]

mark_no_point : (c : ℕ) → IsMark c → c ≡ 46 → ⊥
mark_no_point c m h = elim m as (λ _. ⊥) [ inl e ↦ absurd (omega (arith, e, h)) | inr e ↦ absurd (omega (arith, e, h)) ]

point_count : (Y : List ℕ) → fraction_count (46 ∷ Y) ≡ digit_count 10 Y
unfolding fraction_count
point_count Y = refl

-- digits, a point and digits
fractional_at : (ws ds b : List ℕ) → IsDigits ws → IsDigits ds → DecimalReach (ws ++ 46 ∷ (ds ++ b)) (length ws + suc (length ds))
fractional_at ws ds b w d =
    let X = ws ++ 46 ∷ (ds ++ b) in
    let count : digit_count 10 X ≡ length ws = count_exact 10 ws 46 (ds ++ b) w.1 refl in
    let there : drop (digit_count 10 X) X ≡ 46 ∷ (ds ++ b) = ap (λ n. drop n X) count ∙ drop-append_seam ws (46 ∷ (ds ++ b)) in
    let fraction : (parts_of X).fraction ≡ digit_count 10 (ds ++ b) = fraction_is X ∙ (ap fraction_count there ∙ point_count (ds ++ b)) in
    let many = count_reach 10 ds b d.1 in
    let some : 0 < (parts_of X).fraction = omega (arith, fraction, many, d.0) in
    let wide : pointed_width (parts_of X).fraction ≡ suc (parts_of X).fraction = pointed_more (parts_of X).fraction some in
    (or_left (nat_lt 0 (parts_of X).fraction) (nat_lt 0 (parts_of X).lead) (lt-ltb 0 _ some), omega (arith, mantissa_is X, count, wide, fraction, many))

-- digits and an exponent
plain_at : (ws exponent b : List ℕ) → IsDigits ws → IsExponent exponent → DecimalReach (ws ++ (exponent ++ b)) (length ws + length exponent)
plain_at ws exponent b w e =
    let r = exponent_reach exponent b e in
    let E = r.mark ∷ r.rest in
    let X = ws ++ E in
    let count : digit_count 10 X ≡ length ws = count_exact 10 ws r.mark r.rest w.1 (mark_no_digit r.mark r.marks) in
    let there : drop (digit_count 10 X) X ≡ E = ap (λ n. drop n X) count ∙ drop-append_seam ws E in
    let none : (parts_of X).fraction ≡ 0 = fraction_is X ∙ (ap fraction_count there ∙ fraction_none E (mark_no_point r.mark r.marks)) in
    let short : (parts_of X).mantissa ≡ length ws = mantissa_is X ∙ (ap (λ f. digit_count 10 X + pointed_width f) none ∙ omega (arith, count)) in
    let behind : drop (parts_of X).mantissa X ≡ E = ap (λ n. drop n X) short ∙ drop-append_seam ws E in
    let tail = tail_reach X E behind r.some in
    subst (λ Y. DecimalReach (ws ++ Y) (length ws + length exponent)) (sym r.split) (tail.0, omega (arith, tail.1, short, r.reach))

-- digits, a point, digits and an exponent
pointed_at : (ws fs exponent b : List ℕ) → IsDigits ws → IsDigits fs → IsExponent exponent → DecimalReach (ws ++ 46 ∷ (fs ++ (exponent ++ b))) (length ws + suc (length fs + length exponent))
pointed_at ws fs exponent b w f e =
    let r = exponent_reach exponent b e in
    let E = r.mark ∷ r.rest in
    let X = ws ++ 46 ∷ (fs ++ E) in
    let count : digit_count 10 X ≡ length ws = count_exact 10 ws 46 (fs ++ E) w.1 refl in
    let there : drop (digit_count 10 X) X ≡ 46 ∷ (fs ++ E) = ap (λ n. drop n X) count ∙ drop-append_seam ws (46 ∷ (fs ++ E)) in
    let fraction : (parts_of X).fraction ≡ length fs = fraction_is X ∙ (ap fraction_count there ∙ (point_count (fs ++ E) ∙ count_exact 10 fs r.mark r.rest f.1 (mark_no_digit r.mark r.marks))) in
    let wide : pointed_width (parts_of X).fraction ≡ suc (parts_of X).fraction = pointed_more (parts_of X).fraction (omega (arith, fraction, f.0)) in
    let long : (parts_of X).mantissa ≡ length ws + suc (length fs) = omega (arith, mantissa_is X, count, wide, fraction) in
    let inner : drop (suc (length fs)) (46 ∷ (fs ++ E)) ≡ E = drop-append_seam fs E in
    let behind : drop (parts_of X).mantissa X ≡ E = ap (λ n. drop n X) long ∙ (drop-append-add ws (46 ∷ (fs ++ E)) (suc (length fs)) ∙ inner) in
    let tail = tail_reach X E behind r.some in
    subst (λ Y. DecimalReach (ws ++ 46 ∷ (fs ++ Y)) (length ws + suc (length fs + length exponent))) (sym r.split) (tail.0, omega (arith, tail.1, long, r.reach))

fractional_reach : (ws fraction b : List ℕ) (count : ℕ) → IsDigits ws → IsFraction count fraction → 0 < count → DecimalReach ((ws ++ fraction) ++ b) (length (ws ++ fraction))
fractional_reach ws fraction b count w whole p = absurd (omega arith)
fractional_reach ws fraction b count w (pointed ds d) p =
    subst (λ X. DecimalReach X (length (ws ++ 46 ∷ ds))) (sym (append_assoc ws (46 ∷ ds) b))
    (subst (DecimalReach (ws ++ 46 ∷ (ds ++ b))) (sym (length-append ws (46 ∷ ds))) (fractional_at ws ds b w d))

exponential_reach : (ws fraction exponent b : List ℕ) (count : ℕ) → IsDigits ws → IsFraction count fraction → IsExponent exponent → DecimalReach ((ws ++ (fraction ++ exponent)) ++ b) (length (ws ++ (fraction ++ exponent)))
exponential_reach ws fraction exponent b count w whole e =
    subst (λ X. DecimalReach X (length (ws ++ exponent))) (sym (append_assoc ws exponent b))
    (subst (DecimalReach (ws ++ (exponent ++ b))) (sym (length-append ws exponent)) (plain_at ws exponent b w e))
exponential_reach ws fraction exponent b count w (pointed fs f) e =
    let size : length (ws ++ 46 ∷ (fs ++ exponent)) ≡ length ws + suc (length fs + length exponent) = omega (arith, length-append ws (46 ∷ (fs ++ exponent)), length-append fs exponent) in
    let same : (ws ++ 46 ∷ (fs ++ exponent)) ++ b ≡ ws ++ 46 ∷ (fs ++ (exponent ++ b)) = append_assoc ws (46 ∷ (fs ++ exponent)) b ∙ ap (λ Y. ws ++ 46 ∷ Y) (append_assoc fs exponent b) in
    subst (λ X. DecimalReach X (length (ws ++ 46 ∷ (fs ++ exponent)))) (sym same) (subst (DecimalReach (ws ++ 46 ∷ (fs ++ (exponent ++ b)))) (sym size) (pointed_at ws fs exponent b w f e))

-- no decimal is longer than the one at the front
pub decimal_reach : (other b : List ℕ) → IsDecimal other → DecimalReach (other ++ b) (length other)
decimal_reach other b (fractional ws count fraction w f p few) = fractional_reach ws fraction b count w f p
decimal_reach other b (exponential ws count fraction exponent w f few e) = exponential_reach ws fraction exponent b count w f e
