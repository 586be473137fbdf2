-- What each line and each token of a text keeps to.
-- Internal: no rule of the language.
use Rattle.std.specs.Prelude.{◌≡◌, ℕ, ◌<◌, ◌≤◌, List, [], ◌∷◌, All}
use Rattle.std.specs.Str.{IsCharBoundary}
use Rattle.py_lexer.specs.declared.token.Token.{Token}
use Rattle.py_lexer.specs.declared.line.Line.{Line}

-- the token takes some bytes of the text, and whole characters
pub record IsSpan (text : List ℕ) (t : Token) : Type 0 where
  pub some : t.start < t.end
  pub starts : IsCharBoundary text t.start
  pub ends : IsCharBoundary text t.end

-- each token begins behind the one before it, and the first at a byte or behind it
abbrev pub IsInOrder : ℕ → List Token → Type 0
IsInOrder n [] = Unit {0}
IsInOrder n (t ∷ ts) = (n ≤ t.start) × IsInOrder t.end ts

-- a logical line has tokens, in order, and the place of the first
pub record IsLineOf (text : List ℕ) (l : Line) : Type 0 where
  pub first : Token
  pub rest : List Token
  pub tokens : l.tokens ≡ first ∷ rest
  pub place : l.place ≡ first.place
  pub spans : All (IsSpan text) l.tokens
  pub order : IsInOrder 0 l.tokens
