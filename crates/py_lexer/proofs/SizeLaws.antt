-- No gap and no token is empty.
use Rattle.std.proofs.Common.{◌≡◌, ℕ, Bool, true, false, ◌<◌, List, [], ◌∷◌, ◌++◌, length, sym, subst, arith}
use Rattle.std.specs.Prelude.{replicate}
use Rattle.std.proofs.lemmas.Bool.{cond_both}
use Rattle.py_lexer.specs.declared.token.TokenForm.{TokenForm}
use Rattle.py_lexer.specs.declared.token.TokenForm.TheVariants.{Name, Keyword, Number, Decimal, Str, FormatStr, Sign}
use Rattle.py_lexer.specs.Names.{is_keyword}
use Rattle.py_lexer.specs.Strings.{quotes}
use Rattle.py_lexer.specs.Grammar.{IsLineEnd, feed, return_feed, IsGap, space, tab, comment, line_end, joint, IsGrouped, single, digit, apart, IsNumber, nothing, decimal, based, IsDecimal, fractional, exponential, IsString, IsToken}

-- no gap and no token is empty
line_end_some : (xs : List ℕ) → IsLineEnd xs → 0 < length xs
line_end_some xs feed = omega arith
line_end_some xs return_feed = omega arith

pub gap_some : (xs : List ℕ) → IsGap xs → 0 < length xs
gap_some xs space = omega arith
gap_some xs tab = omega arith
gap_some xs (comment cs h) = omega arith
gap_some xs (line_end cs h) = line_end_some cs h
gap_some xs (joint cs h) = omega arith

grouped_some : (base : ℕ) (xs : List ℕ) → IsGrouped base xs → 0 < length xs
grouped_some base xs (single d h) = omega arith
grouped_some base xs (digit d ds h g) = omega arith
grouped_some base xs (apart d ds h g) = omega arith

number_some : (xs : List ℕ) → IsNumber xs → 0 < length xs
number_some xs nothing = omega arith
number_some xs (decimal ds g z v) = grouped_some 10 ds g
number_some xs (based letter ds p g v) = omega arith

longer : (xs ys : List ℕ) → 0 < length xs → 0 < length (xs ++ ys)
longer [] ys h = absurd (omega arith)
longer (x ∷ xs) ys h = omega arith

decimal_some : (xs : List ℕ) → IsDecimal xs → 0 < length xs
decimal_some xs (fractional whole count fraction d f p l) = longer whole fraction d.0
decimal_some xs (exponential whole count fraction exponent d f l e) = longer whole (fraction ++ exponent) d.0

string_some : (holes : Bool) (xs : List ℕ) → IsString holes xs → 0 < length xs
string_some holes xs s =
    let opens : 0 < length (replicate (quotes s.style) s.style.quote) = cond_both s.style.triple 3 1 (λ n. 0 < length (replicate n s.style.quote)) (λ _. omega arith) (λ _. omega arith) in
    subst (λ xs. 0 < length xs) (sym s.whole) (longer _ s.rest opens)

pub token_some : (form : TokenForm) (xs : List ℕ) → IsToken form xs → 0 < length xs
unfolding is_keyword
token_some Name xs h = subst (λ xs. 0 < length xs) (sym h.whole) (omega arith)
token_some Keyword [] h = let q : false ≡ true = h in absurd cc
token_some Keyword (x ∷ xs) h = omega arith
token_some Number xs h = number_some xs h
token_some Decimal xs h = decimal_some xs h
token_some Str xs h = string_some false xs h
token_some FormatStr xs h = subst (λ xs. 0 < length xs) (sym h.1.0) (omega arith)
token_some Sign [] h = let q : false ≡ true = h in absurd cc
token_some Sign (x ∷ xs) h = omega arith
