use Rattle.std.proofs.Common.{◌≡◌, take, drop}
use Rattle.play_text.specs.Script.{words_in}
use Rattle.play_text.proofs.ScriptWordLaws.{joined_word}
use Rattle.play_text.proofs.script_words.first_word.Given as goal

abbrev pub invariant-loop-b : goal.invariant-loop-b
invariant-loop-b l = record {
  place : l.len ≡ l.b-index;
  words : words_in l.text ≡ joined_word (take l.len l.text) (words_in (drop l.len l.text));
}
