use Rattle.std.proofs.Common.{sym, ap, ◌∙◌}
use Rattle.play_text.specs.Script.{words_in}
use Rattle.play_text.proofs.ScriptWordLaws.{two_words-past}
use Rattle.play_text.proofs.script_words.two_words.Goals as goal

pub returns-in_default-Some-first_word : goal.returns-in_default-Some-first_word
returns-in_default-Some-first_word c =
    two_words-past _ _ c.first_word-2.result.0.now c.first_word.result.1 c.first_word-2.result.1 c.in_default-Some.rest c.in_default-Some-first_word.field-0-1
    c.first_word.ensures.words c.in_default-Some.is-1 (ap (λ x. words_in x.now) (sym c.in_default-Some.rest-is) ∙ c.first_word-2.ensures.words) c.in_default-Some-first_word.is-1
