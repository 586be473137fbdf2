use Rattle.std.proofs.Common.{◌≡◌, ◌++◌, drop, map}
use Rattle.py_words.specs.Words_of.{joined, word_of}
use Rattle.py_words.specs.Openings.{opened}
use Rattle.py_words.proofs.words.words_of.Given as goal

abbrev pub invariant-loop-token : goal.invariant-loop-token
invariant-loop-token l = l.words.items ++ opened l.begun (joined (map (word_of l.text) (drop l.token-index l.tokens))) ≡ joined (map (word_of l.text) l.tokens)
