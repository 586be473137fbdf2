-- What the words of tokens keep of the tokens' own grammar.
-- Internal: no rule of the language.
use Rattle.std.specs.Prelude.{◌≡◌, ℕ, List}
use Rattle.py_lexer.specs.Grammar.{IsNumber}
use Rattle.py_grammar.specs.declared.word.Mark.TheVariants as mark
use Rattle.py_words.specs.Words_of.{number_mark, number_value}

-- each whole number is the word of its value
abbrev pub NumbersAreWords : Type 0
NumbersAreWords = (bs : List ℕ) → IsNumber bs → number_mark bs ≡ mark.Number (number_value bs)
