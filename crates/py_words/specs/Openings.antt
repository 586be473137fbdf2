-- Strings that may still be joined to those behind them.
-- Internal: no rule of the language.
use Rattle.std.specs.Prelude.{◌≡◌, ℕ, Bool, true, false, List, Option, Some, None}
use Rattle.py_grammar.specs.declared.word.Word.{Word}
use Rattle.py_grammar.specs.declared.word.Mark.{Mark}
use Rattle.py_grammar.specs.declared.word.Mark.TheVariants as mark
use Rattle.py_words.specs.declared.words.Open.{Open}
use Rattle.py_words.specs.Words_of.{string_before}

-- words behind such a string, or behind none
abbrev pub opened : Option Open → List Word → List Word
opened None ws = ws
opened (Some o) ws = string_before o.place o.text ws

abbrev pub is_string : Mark → Bool
is_string (mark.Str a) = true
is_string _ = false

-- the mark is this string, or no string where there is none
abbrev pub StringIs : Mark → Option (List ℕ) → Type 0
StringIs m None = is_string m ≡ false
StringIs m (Some a) = m ≡ mark.Str a

abbrev pub string_of : Option (List ℕ) → Mark
string_of None = mark.Other
string_of (Some a) = mark.Str a
