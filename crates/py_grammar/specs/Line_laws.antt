-- The laws that tie the reader of lines to their grammar.
-- Internal: no rule of the language.
use Rattle.std.specs.Prelude.{◌≡◌, ℕ, List, Some}
use Rattle.py_grammar.specs.declared.word.Word.{Word}
use Rattle.py_grammar.specs.Shapes.{LineForm}
use Rattle.py_grammar.specs.Statements.{LineOf}
use Rattle.py_grammar.specs.Line_reading.{line_of}

-- what is read of a line has a derivation
abbrev pub LineReadIsDerived : Type 0
LineReadIsDerived = (room : ℕ) (ws : List Word) (f : LineForm) → line_of room ws ≡ Some f → LineOf room ws f

-- a line that has a derivation is read
abbrev pub LineDerivedIsRead : Type 0
LineDerivedIsRead = (room : ℕ) (ws : List Word) (f : LineForm) → LineOf room ws f → line_of room ws ≡ Some f

-- a line stands for one thing at most
abbrev pub OneLineForm : Type 0
OneLineForm = (room : ℕ) (ws : List Word) (f g : LineForm) → LineOf room ws f → LineOf room ws g → f ≡ g
