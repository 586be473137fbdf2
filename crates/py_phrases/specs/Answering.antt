-- Answers about all of some words: what they stand for, or that they stand for nothing.
-- Internal: no rule of the language.
use Rattle.std.specs.Prelude.{Result, Ok, Err}
use Rattle.py_grammar.specs.declared.word.Stop.{Stop}
use Rattle.py_grammar.specs.declared.word.Stop.TheVariants.{Unread, NoMemory}
use Rattle.py_grammar.specs.Seen.{Seen}
use Rattle.py_words.specs.declared.phrase.Phrase.{Phrase}
use Rattle.py_words.specs.Phrases.{seen_of}

-- nothing was read since the words stand for nothing, unless memory ran out
abbrev pub NothingStands : (Seen → Type 0) → Stop → Type 0
NothingStands StandFor Unread = (e : Seen) → StandFor e → ⊥
NothingStands StandFor NoMemory = Unit {0}

abbrev pub Answers : (Seen → Type 0) → Result Phrase Stop → Type 0
Answers StandFor (Ok p) = StandFor (seen_of p)
Answers StandFor (Err e) = NothingStands StandFor e
