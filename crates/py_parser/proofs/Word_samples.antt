-- The definitions of words at literal tokens.
use Rattle.std.specs.Prelude.{◌≡◌, refl, pos, negsuc, [], ◌∷◌, ◌++◌, codes}
use Rattle.py_grammar.specs.declared.word.Mark.TheVariants as mark
use Rattle.py_lexer.specs.Numbers.{value_from}
use Rattle.py_words.specs.Words_of.{number_mark, decimal_mark, between_quotes, meaning_from}

hex : number_mark (codes "0x1F") ≡ mark.Number 31
unfolding value_from
hex = refl

grouped : number_mark (codes "1_000") ≡ mark.Number 1000
unfolding value_from
grouped = refl

decimal : decimal_mark (codes "12.50e-3") ≡ mark.Decimal (record { digits = 1250; exponent = negsuc 4 })
unfolding value_from
decimal = refl

scaled : decimal_mark (codes "2E+3") ≡ mark.Decimal (record { digits = 2; exponent = pos 3 })
unfolding value_from
scaled = refl

tripled : between_quotes (codes "'''a'b'''") ≡ codes "a'b"
tripled = refl

-- a line feed that is escaped, one that is joined away, and one that stands for itself
meant : meaning_from [] 0 (codes "\\na\\" ++ 13 ∷ 10 ∷ codes "b" ++ 13 ∷ 10 ∷ []) ≡ 10 ∷ codes "ab" ++ 10 ∷ []
unfolding meaning_from
meant = refl
