-- The definition at literal texts, by their bytes.
use Rattle.std.proofs.Common.{◌≡◌, true, false, [], ◌∷◌, refl}
use Rattle.std.specs.Prelude.{codes}
use Rattle.identifiers.specs.Identifiers.{is_identifier}
use Rattle.identifiers.proofs.Computing.{identifiers}

-- ---- in ASCII

name : is_identifier (codes "a_1") ≡ true
unfolding identifiers
name = refl

line : is_identifier (codes "_") ≡ true
unfolding identifiers
line = refl

keyword : is_identifier (codes "if") ≡ true
unfolding identifiers
keyword = refl

nothing : is_identifier [] ≡ false
unfolding identifiers
nothing = refl

digit_first : is_identifier (codes "1a") ≡ false
unfolding identifiers
digit_first = refl

dotted : is_identifier (codes "a.b") ≡ false
unfolding identifiers
dotted = refl

-- ---- letters

-- U+00E9, the composed letter
e_acute : is_identifier (195 ∷ 169 ∷ []) ≡ true
unfolding identifiers
e_acute = refl

-- U+03BC, the Greek letter
mu : is_identifier (206 ∷ 188 ∷ []) ≡ true
unfolding identifiers
mu = refl

-- U+0661, a digit that goes on a name, behind `a`
arabic_one : is_identifier (97 ∷ 217 ∷ 161 ∷ []) ≡ true
unfolding identifiers
arabic_one = refl

-- ---- letters that are not in NFKC

-- `e` and U+0301, which compose
e_and_acute : is_identifier (101 ∷ 204 ∷ 129 ∷ []) ≡ false
unfolding identifiers
e_and_acute = refl

-- U+00B5, the sign of micro, which stands for U+03BC
micro : is_identifier (194 ∷ 181 ∷ []) ≡ false
unfolding identifiers
micro = refl

-- U+FB01, the ligature of `f` and `i`
ligature : is_identifier (239 ∷ 172 ∷ 129 ∷ []) ≡ false
unfolding identifiers
ligature = refl

-- ---- what is no letter

-- U+20AC, the sign of the euro
euro : is_identifier (226 ∷ 130 ∷ 172 ∷ []) ≡ false
unfolding identifiers
euro = refl

-- U+00B2, the raised two, also behind `a`
raised_two : is_identifier (194 ∷ 178 ∷ []) ≡ false
unfolding identifiers
raised_two = refl

a_squared : is_identifier (97 ∷ 194 ∷ 178 ∷ []) ≡ false
unfolding identifiers
a_squared = refl

-- ---- what is no text

-- a byte that begins a character of two, alone
cut : is_identifier (97 ∷ 195 ∷ []) ≡ false
unfolding identifiers
cut = refl
