-- The longest token.
-- Source: Python reference 2.2, Other tokens.
use Rattle.std.specs.Prelude.{◌≡◌, ℕ, ◌≤◌, List, ◌++◌, length}
use Rattle.py_lexer.specs.declared.token.TokenForm.{TokenForm}
use Rattle.py_lexer.specs.Grammar.{IsToken}

-- no token of any form that begins where this text does is longer
abbrev pub IsLongest : List ℕ → List ℕ → Type 0
IsLongest text rest = (form : TokenForm) (other behind : List ℕ) → other ++ behind ≡ text ++ rest → IsToken form other → length other ≤ length text
