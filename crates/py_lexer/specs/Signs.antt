-- Operators and delimiters.
-- Source: Python reference 2.5, Operators, and 2.6, Delimiters; those left out: own rule (docs/RULES.md).
use Rattle.std.specs.Prelude.{ℕ, ◌==◌, ◌&&◌, ◌||◌, Bool, List, codes, Option, None, Some, if◌then◌else◌}
use Rattle.std.specs.List.{list_any}
use Rattle.py_lexer.specs.declared.piece.Bracket.{Bracket}
use Rattle.py_lexer.specs.declared.piece.Bracket.TheVariants.{Round, Square, Curly}

-- the character is one of this text
abbrev pub is_in : List ℕ → ℕ → Bool
is_in text c = list_any (λ d. c == d) text

-- the bracket that the character opens
abbrev pub opened_by : ℕ → Option Bracket
opened_by c = if c == 40 then Some Round else (if c == 91 then Some Square else (if c == 123 then Some Curly else None))

-- the bracket that the character closes
abbrev pub closed_by : ℕ → Option Bracket
closed_by c = if c == 41 then Some Round else (if c == 93 then Some Square else (if c == 125 then Some Curly else None))

-- the signs `//=` `<<=` `>>=`
abbrev pub is_sign_of_three : ℕ → ℕ → ℕ → Bool
is_sign_of_three c d e = (is_in (codes "/<>") c && (d == c)) && (e == 61)

-- the signs that end in `=`, the doubled signs, and `->`
abbrev pub is_sign_of_two : ℕ → ℕ → Bool
is_sign_of_two c d =
    (is_in (codes "=!<>+-*%&|^") c && (d == 61)) || (is_in (codes "/*<>") c && (d == c)) || ((c == 45) && (d == 62))

-- the signs of one character that are no brackets
abbrev pub is_sign_of_one : ℕ → Bool
is_sign_of_one c = is_in (codes ",:.=<>+-*/%&|^~") c

-- how many characters the longest sign takes that begins with these three, or 0
unfoldable pub sign_width : ℕ → ℕ → ℕ → ℕ
sign_width c d e = if is_sign_of_three c d e then 3 else (if is_sign_of_two c d then 2 else (if is_sign_of_one c then 1 else 0))
