-- What a front of a text keeps to.
-- Internal: no rule of the language.
use Rattle.std.specs.Prelude.{ℕ, ◌<◌, ◌≤◌}
use Rattle.py_lexer.specs.declared.piece.Front.{Front}
use Rattle.py_lexer.specs.declared.piece.Piece.{Piece}
use Rattle.py_lexer.specs.declared.piece.Piece.TheVariants.{Space, Tab, Comment, LineEnd, Joint, Token, Open, Close, Fault, Unclosed}
use Rattle.py_lexer.specs.declared.strings.Part.{Part}
use Rattle.py_lexer.specs.declared.strings.Part.TheVariants.{Inner, Missing, Bad}
use Rattle.py_lexer.specs.declared.strings.Body.{Body}
use Rattle.py_lexer.specs.declared.strings.Body.TheVariants.{Closed, Cut, Spoiled}

-- a piece takes at least one character, but a fault may stand at once
abbrev pub Begins : Piece → ℕ → Type 0
Begins Fault width = Unit {0}
Begins Unclosed width = Unit {0}
Begins Space width = 0 < width
Begins Tab width = 0 < width
Begins Comment width = 0 < width
Begins LineEnd width = 0 < width
Begins Joint width = 0 < width
Begins (Token form) width = 0 < width
Begins (Open b) width = 0 < width
Begins (Close b) width = 0 < width

-- a piece takes no more characters than there are
pub record IsWithin (f : Front) (room : ℕ) : Type 0 where
  pub begins : Begins f.piece f.width
  pub within : f.width ≤ room

-- a part takes at least one character and no more than there are
abbrev pub IsPartOf : Part → ℕ → Type 0
IsPartOf (Inner width) room = (0 < width) × (width ≤ room)
IsPartOf Missing room = Unit {0}
IsPartOf Bad room = Unit {0}

-- a string is over, or spoiled, within so many characters
abbrev pub EndsIn : Body → ℕ → Type 0
EndsIn (Closed n) room = (0 < n) × (n ≤ room)
EndsIn Cut room = Unit {0}
EndsIn (Spoiled n) room = n ≤ room
