-- The forms of tokens, and what may stand between them, as rules.
-- Source: Python reference 2.1.2, 2.1.3, 2.1.5, 2.1.9, and 2.3 to 2.6 (tokens); a part of them: own rule (docs/RULES.md).
use Rattle.std.specs.Prelude.{◌≡◌, ◌≢◌, ℕ, ◌+◌, ◌<◌, ◌≤◌, ◌^◌, ◌⊎◌, Bool, true, false, IsTrue, List, [], ◌∷◌, ◌++◌, length, codes, replicate, slice_index}
use Rattle.std.specs.List.{list_all}
use Rattle.unicode_ident.specs.Ident.{is_xid_continue}
use Rattle.unicode_normalization.specs.Forms.{nfkc}
use Rattle.py_lexer.specs.declared.token.TokenForm.{TokenForm}
use Rattle.py_lexer.specs.declared.token.TokenForm.TheVariants.{Name, Keyword, Number, Decimal, Str, FormatStr, Sign}
use Rattle.py_lexer.specs.declared.strings.Style.{Style}
use Rattle.py_lexer.specs.Characters.{ends_line}
use Rattle.py_lexer.specs.Names.{starts_name, is_among, is_keyword, is_refused_keyword}
use Rattle.py_lexer.specs.Numbers.{is_digit, named_base, value_from}
use Rattle.py_lexer.specs.Signs.{is_in}
use Rattle.py_lexer.specs.Strings.{quotes, closes}

-- LF, or CR LF
pub data IsLineEnd : List ℕ → Type 0 where
  feed : IsLineEnd (10 ∷ [])
  return_feed : IsLineEnd (13 ∷ 10 ∷ [])

-- characters of one line
abbrev pub HasNoLineEnd : List ℕ → Type 0
HasNoLineEnd [] = Unit {0}
HasNoLineEnd (c ∷ cs) = (c ≢ 10) × HasNoLineEnd cs

-- what stands between tokens
pub data IsGap : List ℕ → Type 0 where
  space : IsGap (32 ∷ [])
  tab : IsGap (9 ∷ [])
  comment : (cs : List ℕ) → HasNoLineEnd cs → IsGap (35 ∷ cs)
  line_end : (cs : List ℕ) → IsLineEnd cs → IsGap cs
  joint : (cs : List ℕ) → IsLineEnd cs → IsGap (92 ∷ cs)

-- a name that is in NFKC and no keyword
pub record IsName (word : List ℕ) : Type 0 where
  pub first : ℕ
  pub rest : List ℕ
  pub whole : word ≡ first ∷ rest
  pub starts : IsTrue (starts_name first)
  pub continues : IsTrue (list_all is_xid_continue rest)
  pub normal : nfkc word ≡ word
  pub kept : is_keyword word ≡ false
  pub free : is_refused_keyword word ≡ false

-- digits in a base, with single `_` between two of them
pub data IsGrouped (base : ℕ) : List ℕ → Type 0 where
  single : (d : ℕ) → IsTrue (is_digit base d) → IsGrouped base (d ∷ [])
  digit : (d : ℕ) (ds : List ℕ) → IsTrue (is_digit base d) → IsGrouped base ds → IsGrouped base (d ∷ ds)
  apart : (d : ℕ) (ds : List ℕ) → IsTrue (is_digit base d) → IsGrouped base ds → IsGrouped base (d ∷ 95 ∷ ds)

-- a whole number below 2^128
pub data IsNumber : List ℕ → Type 0 where
  nothing : IsNumber (48 ∷ [])
  decimal : (ds : List ℕ) → IsGrouped 10 ds → slice_index ds 0 ≢ 48 → value_from 10 0 ds < 2 ^ 128 → IsNumber ds
  based : (letter : ℕ) (ds : List ℕ) → 0 < named_base letter → IsGrouped (named_base letter) ds → value_from (named_base letter) 0 ds < 2 ^ 128 → IsNumber (48 ∷ letter ∷ ds)

-- at least one digit
abbrev pub IsDigits : List ℕ → Type 0
IsDigits ds = (0 < length ds) × IsTrue (list_all (is_digit 10) ds)

-- a point and digits
pub data IsFraction : ℕ → List ℕ → Type 0 where
  whole : IsFraction 0 []
  pointed : (ds : List ℕ) → IsDigits ds → IsFraction (length ds) (46 ∷ ds)

-- `e` or `E`
abbrev pub IsMark : ℕ → Type 0
IsMark c = (c ≡ 101) ⊎ (c ≡ 69)

-- `+` or `-`
abbrev pub IsSignOfExponent : ℕ → Type 0
IsSignOfExponent c = (c ≡ 43) ⊎ (c ≡ 45)

-- an exponent from -18 to 18
pub data IsExponent : List ℕ → Type 0 where
  plain : (mark : ℕ) (ds : List ℕ) → IsMark mark → IsDigits ds → value_from 10 0 ds ≤ 18 → IsExponent (mark ∷ ds)
  signed : (mark sign : ℕ) (ds : List ℕ) → IsMark mark → IsSignOfExponent sign → IsDigits ds → value_from 10 0 ds ≤ 18 → IsExponent (mark ∷ sign ∷ ds)

-- digits with a fraction, an exponent or both, of which at most 18 stand before the exponent
pub data IsDecimal : List ℕ → Type 0 where
  fractional : (whole : List ℕ) (count : ℕ) (fraction : List ℕ) → IsDigits whole → IsFraction count fraction → 0 < count → length whole + count ≤ 18 → IsDecimal (whole ++ fraction)
  exponential : (whole : List ℕ) (count : ℕ) (fraction exponent : List ℕ) → IsDigits whole → IsFraction count fraction → length whole + count ≤ 18 → IsExponent exponent → IsDecimal (whole ++ (fraction ++ exponent))

-- a character that may stand for itself in a string: not where the string is closed, no backslash, and no
-- brace where there are holes; in a string of one line no line end
pub record IsPlain (style : Style) (c : ℕ) (cs : List ℕ) : Type 0 where
  pub inside : closes style (c ∷ cs) ≡ false
  pub no_escape : c ≢ 92
  pub no_brace : style.holes ≡ true → (c ≢ 123) × (c ≢ 125)
  pub no_end : style.triple ≡ false → ends_line (c ∷ cs) ≡ false

-- the rest of a string behind its opening quotes
pub data IsBody (style : Style) : List ℕ → Type 0 where
  closing : IsBody style (replicate (quotes style) style.quote)
  plain : (c : ℕ) (cs : List ℕ) → IsPlain style c cs → IsBody style cs → IsBody style (c ∷ cs)
  escaped : (e : ℕ) (cs : List ℕ) → IsTrue (is_in (codes "\\'\"nt") e) → IsBody style cs → IsBody style (92 ∷ e ∷ cs)
  joined : (ends cs : List ℕ) → IsLineEnd ends → IsBody style cs → IsBody style (92 ∷ (ends ++ cs))
  doubled : (brace : ℕ) (cs : List ℕ) → style.holes ≡ true → (brace ≡ 123) ⊎ (brace ≡ 125) → IsBody style cs → IsBody style (brace ∷ brace ∷ cs)
  hole : (name cs : List ℕ) → style.holes ≡ true → IsName name → IsBody style cs → IsBody style (123 ∷ (name ++ 125 ∷ cs))

-- a string between its quotes
pub record IsString (holes : Bool) (text : List ℕ) : Type 0 where
  pub style : Style
  pub rest : List ℕ
  pub quote : (style.quote ≡ 39) ⊎ (style.quote ≡ 34)
  pub of_kind : style.holes ≡ holes
  pub whole : text ≡ replicate (quotes style) style.quote ++ rest
  pub body : IsBody style rest

-- the operators and delimiters
abbrev pub signs : List (List ℕ)
signs =
    codes "(" ∷ codes ")" ∷ codes "[" ∷ codes "]" ∷ codes "{" ∷ codes "}" ∷ codes "," ∷ codes ":" ∷ codes "." ∷
    codes "=" ∷ codes "==" ∷ codes "!=" ∷ codes "<" ∷ codes "<=" ∷ codes ">" ∷ codes ">=" ∷ codes "+" ∷ codes "-" ∷
    codes "*" ∷ codes "/" ∷ codes "//" ∷ codes "%" ∷ codes "**" ∷ codes "&" ∷ codes "|" ∷ codes "^" ∷ codes "~" ∷
    codes "<<" ∷ codes ">>" ∷ codes "+=" ∷ codes "-=" ∷ codes "*=" ∷ codes "//=" ∷ codes "%=" ∷ codes "&=" ∷
    codes "|=" ∷ codes "^=" ∷ codes "<<=" ∷ codes ">>=" ∷ codes "->" ∷ []

-- a token of this form
abbrev pub IsToken : TokenForm → List ℕ → Type 0
IsToken Name text = IsName text
IsToken Keyword text = is_keyword text ≡ true
IsToken Number text = IsNumber text
IsToken Decimal text = IsDecimal text
IsToken Str text = IsString false text
IsToken FormatStr text = (rest : List ℕ) × ((text ≡ 102 ∷ rest) × IsString true rest)
IsToken Sign text = IsTrue (is_among signs text)
