-- A whole number of the lexer's grammar is the word of its value.
use Rattle.std.proofs.Common.{◌≡◌, ◌≢◌, ℕ, ◌<◌, ◌^◌, refl, ap, List, ◌∷◌, slice_index, drop, arith}
use Rattle.std.specs.Prelude.{if◌then◌else◌, nat_lt}
use Rattle.std.proofs.lemmas.Bool.Decides.{nat_tests}
use Rattle.py_lexer.specs.Numbers.{value_from, named_base}
use Rattle.py_lexer.specs.Grammar.{nothing, decimal, based}
use Rattle.py_grammar.specs.declared.word.Mark.TheVariants as mark
use Rattle.py_words.specs.Words_of.{number_value, base_behind}
use Rattle.py_words.specs.Word_laws.{NumbersAreWords}

below_limit : (n : ℕ) → n < 2 ^ 128 → (if nat_lt n (2 ^ 128) then mark.Number n else mark.Other) ≡ mark.Number n
below_limit n h = grind (arith, nat_tests)

no_base : (bs : List ℕ) → slice_index bs 0 ≢ 48 → base_behind bs ≡ 0
no_base bs h = grind (arith, nat_tests)

decimal_value : (bs : List ℕ) → base_behind bs ≡ 0 → number_value bs ≡ value_from 10 0 bs
decimal_value bs h = ap (λ base. if nat_lt 0 base then value_from base 0 (drop 2 bs) else value_from 10 0 bs) h

based_value : (letter : ℕ) (ds : List ℕ) → 0 < named_base letter → number_value (48 ∷ letter ∷ ds) ≡ value_from (named_base letter) 0 ds
based_value letter ds h = grind (arith, nat_tests)

pub number_is_word : NumbersAreWords
unfolding value_from
number_is_word bs nothing = refl
number_is_word bs (decimal ds grouped first small) = below_limit (number_value ds) (omega (arith, decimal_value ds (no_base ds first)))
number_is_word bs (based letter ds some grouped small) = below_limit (number_value (48 ∷ letter ∷ ds)) (omega (arith, based_value letter ds some))
