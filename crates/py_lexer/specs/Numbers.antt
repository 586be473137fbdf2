-- Whole numbers and decimals.
-- Source: Python reference 2.4.5, Integer literals, and 2.4.6, Floating point literals; their limits: own rule (docs/RULES.md).
use Rattle.std.specs.Prelude.{ℕ, suc, ◌+◌, ◌*◌, ◌^◌, ◌==◌, ◌&&◌, ◌||◌, nat_lt, nat_le, Bool, List, [], ◌∷◌, length, take, drop, take_while, if◌then◌else◌, slice_index}
use Rattle.std.specs.Char.{digit_value}
use Rattle.py_lexer.specs.declared.piece.Front.{Front}
use Rattle.py_lexer.specs.declared.piece.Piece.TheVariants.{Token, Fault}
use Rattle.py_lexer.specs.declared.token.TokenForm.TheVariants.{Number, Decimal}
use Rattle.py_lexer.specs.declared.numbers.Numeral.{Numeral}
use Rattle.py_lexer.specs.declared.numbers.Parts.{Parts}

-- a digit of numbers in this base
abbrev pub is_digit : ℕ → ℕ → Bool
is_digit base c = nat_lt (digit_value c) base

-- how many digits stand here
unfoldable pub digit_count : ℕ → List ℕ → ℕ
digit_count base cs = length (take_while (is_digit base) cs)

-- the character is a digit, or a `_` with a digit behind it
abbrev pub is_run : ℕ → ℕ → List ℕ → Bool
is_run base c cs = is_digit base c || ((c == 95) && is_digit base (slice_index cs 0))

-- how many characters a numeral takes that begins here with a digit: digits, with single `_` between two of them
unfoldable pub run_width : ℕ → List ℕ → ℕ
run_width base [] = 0
run_width base (c ∷ cs) =
    if is_run base c cs then suc (run_width base cs) else 0

-- the number that a digit makes of that before it; what is no digit, as `_`, stands for nothing
abbrev pub next_value : ℕ → ℕ → ℕ → ℕ
next_value base n c = if is_digit base c then n * base + digit_value c else n

-- the number that digits spell behind those that spell n
unfoldable pub value_from : ℕ → ℕ → List ℕ → ℕ
value_from base n [] = n
value_from base n (c ∷ cs) = value_from base (next_value base n c) cs

-- the base that the character behind a zero names, or 0
abbrev pub named_base : ℕ → ℕ
named_base c = if c == 120 then 16 else (if c == 111 then 8 else (if c == 98 then 2 else 0))

-- the whole number that begins with a zero and names this base; without a digit of it, the zero alone
abbrev pub numeral_by : ℕ → List ℕ → Numeral
numeral_by base cs =
    if nat_lt 0 base && is_digit base (slice_index cs 2)
    then record { base = base; prefix = 2; width = 2 + run_width base (drop 2 cs) }
    else record { base = 10; prefix = 0; width = 1 }

-- the whole number that begins here with a decimal digit; behind a zero only a base may follow
unfoldable pub numeral_of : List ℕ → Numeral
numeral_of cs =
    if slice_index cs 0 == 48
    then numeral_by (named_base (slice_index cs 1)) cs
    else record { base = 10; prefix = 0; width = run_width 10 cs }

-- the digits of a numeral
abbrev pub digits_of : Numeral → List ℕ → List ℕ
digits_of n cs = drop n.prefix (take n.width cs)

-- a sign of an exponent
abbrev pub sign_of_exponent : ℕ → ℕ
sign_of_exponent c = if (c == 43) || (c == 45) then 1 else 0

-- how many characters stand before the digits of an exponent, `e` or `E` and a sign, or 0 where there is no exponent
unfoldable pub exponent_lead : List ℕ → ℕ
exponent_lead cs =
    let lead = 1 + sign_of_exponent (slice_index cs 1) in
    if ((slice_index cs 0 == 101) || (slice_index cs 0 == 69)) && is_digit 10 (slice_index cs lead) then lead else 0

-- how many digits stand behind a point, or 0 where there is no point
unfoldable pub fraction_count : List ℕ → ℕ
fraction_count cs = if slice_index cs 0 == 46 then digit_count 10 (drop 1 cs) else 0

-- how many characters a point and these digits take
abbrev pub pointed : ℕ → ℕ
pointed fraction = if nat_lt 0 fraction then fraction + 1 else 0

-- the parts of a decimal that begins here, as far as there are any
unfoldable pub parts_of : List ℕ → Parts
parts_of cs =
    let whole = digit_count 10 cs in
    let fraction = fraction_count (drop whole cs) in
    let mantissa = whole + pointed fraction in
    let lead = exponent_lead (drop mantissa cs) in
    record {
      whole = whole;
      fraction = fraction;
      mantissa = mantissa;
      lead = lead;
      exponent = if nat_lt 0 lead then digit_count 10 (drop (mantissa + lead) cs) else 0;
    }

-- there is a fraction or an exponent, so the digits are a decimal and no whole number
abbrev pub is_decimal : Parts → Bool
is_decimal p = nat_lt 0 p.fraction || nat_lt 0 p.lead

-- how many characters a decimal takes
abbrev pub decimal_width : Parts → ℕ
decimal_width p = p.mantissa + p.lead + p.exponent

-- the number without the sign that the exponent has
abbrev pub exponent_of : Parts → List ℕ → ℕ
exponent_of p cs = value_from 10 0 (take p.exponent (drop (p.mantissa + p.lead) cs))

-- at most 18 digits before the exponent, and an exponent from -18 to 18
abbrev pub is_small : Parts → List ℕ → Bool
is_small p cs = nat_le (p.whole + p.fraction) 18 && nat_le (exponent_of p cs) 18

-- a token of a number, or a fault at its first digit
unfoldable pub number_front : List ℕ → Front
number_front cs =
    if is_decimal (parts_of cs)
    then (
    if is_small (parts_of cs) cs
    then record { piece = Token Decimal; width = decimal_width (parts_of cs) }
    else record { piece = Fault; width = 0 }
    )
    else (
    if nat_lt (value_from (numeral_of cs).base 0 (digits_of (numeral_of cs) cs)) (2 ^ 128)
    then record { piece = Token Number; width = (numeral_of cs).width }
    else record { piece = Fault; width = 0 }
    )
