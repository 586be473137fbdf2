use Rattle.std.proofs.Common.{◌≡◌, [], length}
use Rattle.py_words.specs.Words_of.{meaning_from}
use Rattle.py_words.proofs.strings.meaning.Given as goal

abbrev pub invariant-loop-rest : goal.invariant-loop-rest
invariant-loop-rest l = meaning_from l.meant.items l.left l.rest ≡ meaning_from [] 0 l.bytes

abbrev pub decreases-loop-rest : goal.decreases-loop-rest
decreases-loop-rest l = length l.rest
