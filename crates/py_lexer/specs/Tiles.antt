-- A text as its tokens and what stands between them.
-- Source: Python reference 2.1.9, Whitespace between tokens, and 2.2, Other tokens.
use Rattle.std.specs.Prelude.{ℕ, List, [], ◌∷◌, ◌++◌}
use Rattle.py_lexer.specs.declared.token.Token.{Token}
use Rattle.py_lexer.specs.declared.token.TokenForm.{TokenForm}
use Rattle.py_lexer.specs.declared.line.Line.{Line}
use Rattle.py_lexer.specs.declared.piece.Mark.{Mark}
use Rattle.py_lexer.specs.Characters.{past}
use Rattle.py_lexer.specs.Grammar.{IsGap, IsToken}
use Rattle.py_lexer.specs.Longest.{IsLongest}

-- the tokens of lines, in order
abbrev pub tokens_in : List Line → List Token
tokens_in [] = []
tokens_in (l ∷ ls) = l.tokens ++ tokens_in ls

-- a token of this form between two marks
abbrev pub token_between : TokenForm → Mark → Mark → Token
token_between form m n = record { form = form; start = m.byte; end = n.byte; place = m.place }

-- from a mark on, the text is made of these tokens in order and of gaps between them; each token is the longest that
-- may stand where it begins
pub data Tiles : Mark → List ℕ → List Token → Type 0 where
  over : (m : Mark) → Tiles m [] []
  gap : (m : Mark) (between rest : List ℕ) (ts : List Token) → IsGap between → Tiles (past m between) rest ts → Tiles m (between ++ rest) ts
  token : (m : Mark) (form : TokenForm) (text rest : List ℕ) (ts : List Token) → IsToken form text → IsLongest text rest → Tiles (past m text) rest ts → Tiles m (text ++ rest) (token_between form m (past m text) ∷ ts)
