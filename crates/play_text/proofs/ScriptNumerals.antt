-- Numerals: the integer that a text stands for has this text, and no other.
use Rattle.std.proofs.Common.{◌≡◌, refl, ℕ, zero, suc, ◌+◌, ◌-◌, ◌*◌, ◌/◌, ◌%◌, ◌^◌, ◌≤◌, ◌<◌, Bool, true, false, cond, List, [], ◌∷◌, ◌++◌, sym, ap, ◌∙◌, subst, arith, append_assoc}
use Rattle.std.specs.Prelude.{Option, Some, None, option_and_then, option_map, ℤ, pos, negsuc, unsigned_abs, ◌==◌}
use Rattle.std.specs.Char.{is_ascii_digit}
use Rattle.std.specs.Fmt.{decimal}
use Rattle.std.proofs.lemmas.List.{append-nil}
use Rattle.std.proofs.lemmas.Fmt.{decimal_by_steps_wide, decimal_step_wide, decimal_digit}
use Rattle.std.proofs.lemmas.Bool.Decides.{nat_tests}
use Rattle.amh_bits.specs.Decimals.{int_text}
use Rattle.play_text.specs.Script.{digits_from, natural_of, integer_of, opposite}

-- ---- digits

pub digit_low : (b : ℕ) → is_ascii_digit b ≡ true → (48 ≤ b) × (b ≤ 57)
digit_low b h = (grind (arith, nat_tests), grind (arith, nat_tests))

digit_of : (d : ℕ) → d < 10 → is_ascii_digit (48 + d) ≡ true
digit_of d h = grind (arith, nat_tests)

digits_from-append : (n : ℕ) (ds es : List ℕ) → digits_from n (ds ++ es) ≡ option_and_then (λ k. digits_from k es) (digits_from n ds)
digits_from-append n [] es = refl
digits_from-append n (d ∷ ds) es = here (is_ascii_digit d) (digits_from-append (10 * n + (d - 48)) ds es)
  where
    here : (t : Bool) → digits_from (10 * n + (d - 48)) (ds ++ es) ≡ option_and_then (λ k. digits_from k es) (digits_from (10 * n + (d - 48)) ds)
        → cond t (digits_from (10 * n + (d - 48)) (ds ++ es)) None ≡ option_and_then (λ k. digits_from k es) (cond t (digits_from (10 * n + (d - 48)) ds) None)
    here true e = e
    here false e = refl

-- more digits make no number smaller
digits_from-least : (n m : ℕ) (ds : List ℕ) → digits_from n ds ≡ Some m → n ≤ m
digits_from-least n m [] h = let same : n ≡ m = cc in omega (arith, same)
digits_from-least n m (d ∷ ds) h = here (is_ascii_digit d) h (λ k. digits_from-least (10 * n + (d - 48)) m ds k)
  where
    here : (t : Bool) → cond t (digits_from (10 * n + (d - 48)) ds) None ≡ Some m → (digits_from (10 * n + (d - 48)) ds ≡ Some m → 10 * n + (d - 48) ≤ m) → n ≤ m
    here true e more = omega (arith, more e)
    here false e more = absurd (cc)

-- ---- the text of a number stands for it

-- a numeral of the number: its first digit, and 0 is first only where it stands alone
record Numeral (n : ℕ) (ds : List ℕ) : Type 0 where
  first : ℕ
  rest : List ℕ
  is : ds ≡ first ∷ rest
  digit : is_ascii_digit first ≡ true
  value : digits_from 0 ds ≡ Some n
  natural : natural_of ds ≡ Some n
  above : 0 < n → (first == 48) ≡ false

numeral_one : (n : ℕ) → n < 10 → Numeral n ((48 + n) ∷ [])
numeral_one n h =
    let digit = digit_of n h in
    let value : digits_from 0 ((48 + n) ∷ []) ≡ Some n = rw digit (ap (λ (m : ℕ). Some m) (omega arith)) in
    record { first = 48 + n; rest = []; is = refl; digit = digit; value = value; natural = value; above = λ some. grind (arith, nat_tests) }

numeral_more : (n : ℕ) (ds : List ℕ) → 10 ≤ n → Numeral (n / 10) ds → Numeral n (ds ++ (48 + n % 10) ∷ [])
numeral_more n ds h k =
    let last : ℕ = 48 + n % 10 in
    let digit = digit_of (n % 10) (omega arith) in
    let front : 0 < n / 10 = omega arith in
    let value : digits_from 0 (ds ++ last ∷ []) ≡ Some n = digits_from-append 0 ds (last ∷ []) ∙ rw (k.value, digit) (ap (λ (m : ℕ). Some m) (whole n)) in
    let is : ds ++ last ∷ [] ≡ k.first ∷ (k.rest ++ last ∷ []) = ap (λ (xs : List ℕ). xs ++ last ∷ []) k.is in
    record {
      first = k.first;
      rest = k.rest ++ last ∷ [];
      is = is;
      digit = k.digit;
      value = value;
      natural = ap natural_of is ∙ long k.first (k.rest ++ last ∷ []) (k.above front) ∙ sym (ap (digits_from 0) is) ∙ value;
      above = λ some. k.above front;
    }
  where
    whole : (m : ℕ) → 10 * (m / 10) + (48 + m % 10 - 48) ≡ m
    whole m = omega arith

    long : (b : ℕ) (bs : List ℕ) → (b == 48) ≡ false → natural_of (b ∷ bs) ≡ digits_from 0 (b ∷ bs)
    long b [] e = refl
    long b (c ∷ bs) e = rw e refl

numeral : (n : ℕ) → n < 10 ^ 64 → Numeral n (decimal n)
numeral n h = decimal_by_steps_wide Numeral numeral_one numeral_more n h

pub natural_of-decimal : (n : ℕ) → n < 10 ^ 64 → natural_of (decimal n) ≡ Some n
natural_of-decimal n h = (numeral n h).natural

-- ---- and no other text does

-- digits behind the text of a number
decimal-more : (n m : ℕ) (front ds : List ℕ) → 0 < n → front ≡ decimal n → digits_from n ds ≡ Some m → m < 10 ^ 64 → front ++ ds ≡ decimal m
decimal-more n m front [] some is h small = let same : n ≡ m = cc in append-nil front ∙ is ∙ ap decimal same
decimal-more n m front (d ∷ ds) some is h small =
    here (is_ascii_digit d) refl h (λ front' k e. decimal-more (10 * n + (d - 48)) m front' ds (omega arith) k e small)
  where
    step : is_ascii_digit d ≡ true → 10 * n + (d - 48) < 10 ^ 64 → front ++ d ∷ [] ≡ decimal (10 * n + (d - 48))
    step digit fits =
        let low = digit_low d digit in
        let quotient : n ≡ (10 * n + (d - 48)) / 10 = omega (arith, low) in
        let last : d ≡ 48 + (10 * n + (d - 48)) % 10 = omega (arith, low) in
        (λ i. is i ++ d ∷ []) ∙ (λ i. decimal (quotient i) ++ last i ∷ []) ∙ sym (decimal_step_wide (10 * n + (d - 48)) (omega arith) fits)

    here : (t : Bool) → is_ascii_digit d ≡ t → cond t (digits_from (10 * n + (d - 48)) ds) None ≡ Some m
        → ((front' : List ℕ) → front' ≡ decimal (10 * n + (d - 48)) → digits_from (10 * n + (d - 48)) ds ≡ Some m → front' ++ ds ≡ decimal m) → front ++ d ∷ ds ≡ decimal m
    here true digit e more =
        let least = digits_from-least (10 * n + (d - 48)) m ds e in
        sym (append_assoc front (d ∷ []) ds) ∙ more (front ++ d ∷ []) (step digit (omega (arith, least, small))) e
    here false digit e more = absurd (cc)

one_digit : (b m : ℕ) → is_ascii_digit b ≡ true → m ≡ 10 * 0 + (b - 48) → b ∷ [] ≡ decimal m
one_digit b m digit is =
    let low = digit_low b digit in
    let same : b ≡ 48 + m = omega (arith, low, is) in
    ap (λ (d : ℕ). d ∷ []) same ∙ sym (decimal_digit m (omega (arith, low, is)))

pub natural_of-unique : (text : List ℕ) (n : ℕ) → n < 10 ^ 64 → natural_of text ≡ Some n → text ≡ decimal n
natural_of-unique [] n small h = absurd (cc)
natural_of-unique (b ∷ []) n small h = here (is_ascii_digit b) refl h
  where
    here : (t : Bool) → is_ascii_digit b ≡ t → cond t (Some (10 * 0 + (b - 48))) None ≡ Some n → b ∷ [] ≡ decimal n
    here true digit e = let same : 10 * 0 + (b - 48) ≡ n = cc in one_digit b n digit (sym same)
    here false digit e = absurd (cc)
natural_of-unique (b ∷ c ∷ bs) n small h = first (b == 48) refl h
  where
    here : (b == 48) ≡ false → (t : Bool) → is_ascii_digit b ≡ t → cond t (digits_from (10 * 0 + (b - 48)) (c ∷ bs)) None ≡ Some n → b ∷ c ∷ bs ≡ decimal n
    here other true digit e =
        let low = digit_low b digit in
        decimal-more (10 * 0 + (b - 48)) n (b ∷ []) (c ∷ bs) (above other low) (one_digit b (10 * 0 + (b - 48)) digit refl) e small
      where
        above : (b == 48) ≡ false → (48 ≤ b) × (b ≤ 57) → 0 < 10 * 0 + (b - 48)
        above other' low' = grind (arith, nat_tests)
    here other false digit e = absurd (cc)

    first : (t : Bool) → (b == 48) ≡ t → cond t None (digits_from 0 (b ∷ c ∷ bs)) ≡ Some n → b ∷ c ∷ bs ≡ decimal n
    first true q e = absurd (cc)
    first false q e = here q (is_ascii_digit b) refl e

-- ---- integers

no_minus : (b : ℕ) → is_ascii_digit b ≡ true → (b == 45) ≡ false
no_minus b digit = let low = digit_low b digit in grind (arith, nat_tests)

integer_of-numeral : (n : ℕ) (ds : List ℕ) → Numeral n ds → integer_of ds ≡ Some (pos n)
integer_of-numeral n ds k =
    ap integer_of k.is ∙ rw (no_minus k.first k.digit) (ap (option_map pos) (sym (ap natural_of k.is) ∙ k.natural))

opposite-suc : (n : ℕ) → opposite (suc n) ≡ Some (negsuc n)
opposite-suc n =
    let some : (suc n == 0) ≡ false = grind (arith, nat_tests) in
    let back : suc n - 1 ≡ n = omega arith in
    rw (some, back) refl

-- the text of an integer stands for it
pub integer_of-int_text : (z : ℤ) → unsigned_abs z < 10 ^ 64 → integer_of (int_text z) ≡ Some z
integer_of-int_text (pos n) small = integer_of-numeral n (decimal n) (numeral n small)
integer_of-int_text (negsuc n) small = rw (natural_of-decimal (suc n) small) (opposite-suc n)

unique_minus : (digits : List ℕ) (o : Option ℕ) (z : ℤ) → natural_of digits ≡ o → option_and_then opposite o ≡ Some z → unsigned_abs z < 10 ^ 64 → 45 ∷ digits ≡ int_text z
unique_minus digits None z n h small = absurd (cc)
unique_minus digits (Some zero) z n h small = absurd (cc)
unique_minus digits (Some (suc m)) z n h small =
    let found : Some (negsuc m) ≡ Some z = sym (opposite-suc m) ∙ h in
    let same : negsuc m ≡ z = cc in
    let few : suc m < 10 ^ 64 = subst (λ (y : ℤ). unsigned_abs y < 10 ^ 64) (sym same) small in
    ap (λ (ds : List ℕ). 45 ∷ ds) (natural_of-unique digits (suc m) few n) ∙ ap int_text same

unique_plain : (text : List ℕ) (o : Option ℕ) (z : ℤ) → natural_of text ≡ o → option_map pos o ≡ Some z → unsigned_abs z < 10 ^ 64 → text ≡ int_text z
unique_plain text None z n h small = absurd (cc)
unique_plain text (Some m) z n h small =
    let same : pos m ≡ z = cc in
    let few : m < 10 ^ 64 = subst (λ (y : ℤ). unsigned_abs y < 10 ^ 64) (sym same) small in
    natural_of-unique text m few n ∙ ap int_text same

-- no other text does
pub integer_of-unique : (text : List ℕ) (z : ℤ) → unsigned_abs z < 10 ^ 64 → integer_of text ≡ Some z → text ≡ int_text z
integer_of-unique [] z small h = absurd (cc)
integer_of-unique (b ∷ bs) z small h = here (b == 45) refl h
  where
    here : (t : Bool) → (b == 45) ≡ t → cond t (option_and_then opposite (natural_of bs)) (option_map pos (natural_of (b ∷ bs))) ≡ Some z → b ∷ bs ≡ int_text z
    here true q e =
        let same : b ≡ 45 = grind (arith, nat_tests) in
        ap (λ (c : ℕ). c ∷ bs) same ∙ unique_minus bs (natural_of bs) z refl e small
    here false q e = unique_plain (b ∷ bs) (natural_of (b ∷ bs)) z refl e small
