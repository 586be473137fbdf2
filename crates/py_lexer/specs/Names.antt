-- Names and keywords.
-- Source: Python reference 2.3, Identifiers and keywords; Unicode UAX #31, #15; what is refused: own rule (docs/RULES.md).
use Rattle.std.specs.Prelude.{ℕ, suc, ◌==◌, ◌||◌, Bool, List, [], ◌∷◌, length, take_while, bytes_eq, codes, Option, None, Some, if◌then◌else◌}
use Rattle.std.specs.List.{list_any}
use Rattle.unicode_ident.specs.Ident.{is_xid_start, is_xid_continue}
use Rattle.unicode_normalization.specs.Forms.{is_in_form, Nfkc}
use Rattle.py_lexer.specs.declared.token.TokenForm.{TokenForm}
use Rattle.py_lexer.specs.declared.token.TokenForm.TheVariants.{Name, Keyword}

-- a character of the class XID_Start, or `_`
abbrev pub starts_name : ℕ → Bool
starts_name c = is_xid_start c || (c == 95)

-- how many characters the name takes whose first character stands before these
abbrev pub name_width : List ℕ → ℕ
name_width cs = suc (length (take_while is_xid_continue cs))

-- the keywords of the subset, in the order of the alphabet
abbrev pub and_to_class : List (List ℕ)
and_to_class =
    codes "and" ∷ codes "as" ∷ codes "assert" ∷ codes "async" ∷ codes "await" ∷ codes "break" ∷ codes "class" ∷ []

-- the keywords from `continue` on
abbrev pub continue_to_from : List (List ℕ)
continue_to_from =
    codes "continue" ∷ codes "def" ∷ codes "elif" ∷ codes "else" ∷ codes "False" ∷ codes "for" ∷ codes "from" ∷ []

-- the keywords from `if` on
abbrev pub if_to_or : List (List ℕ)
if_to_or = codes "if" ∷ codes "import" ∷ codes "in" ∷ codes "is" ∷ codes "None" ∷ codes "not" ∷ codes "or" ∷ []

-- the keywords from `pass` on
abbrev pub pass_to_with : List (List ℕ)
pass_to_with = codes "pass" ∷ codes "raise" ∷ codes "return" ∷ codes "True" ∷ codes "while" ∷ codes "with" ∷ []

-- the other keywords of Python
abbrev pub refused_keywords : List (List ℕ)
refused_keywords =
    codes "del" ∷ codes "except" ∷ codes "finally" ∷ codes "global" ∷ codes "lambda" ∷ codes "nonlocal" ∷ codes "try" ∷
    codes "yield" ∷ []

-- the word is among these
abbrev pub is_among : List (List ℕ) → List ℕ → Bool
is_among words word = list_any (λ w. bytes_eq word w) words

-- the word is a keyword of the subset
unfoldable pub is_keyword : List ℕ → Bool
is_keyword word =
    is_among and_to_class word || is_among continue_to_from word || is_among if_to_or word || is_among pass_to_with word

-- the word is a keyword of Python that the subset leaves out
unfoldable pub is_refused_keyword : List ℕ → Bool
is_refused_keyword word = is_among refused_keywords word

-- the form of a token that is this word, where it may stand
unfoldable pub word_form : List ℕ → Option TokenForm
word_form word =
    if is_in_form Nfkc word
    then (if is_keyword word then Some Keyword else (if is_refused_keyword word then None else Some Name))
    else None
