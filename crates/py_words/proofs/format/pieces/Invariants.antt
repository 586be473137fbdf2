use Rattle.std.proofs.Common.{◌≡◌, [], length, Some}
use Rattle.py_words.specs.Words_of.{pieces_from}
use Rattle.py_words.proofs.format.pieces.Given as goal

abbrev pub invariant-loop-rest : goal.invariant-loop-rest
invariant-loop-rest l = pieces_from (Some l.pieces) l.text.items l.left l.rest ≡ pieces_from (Some []) [] 0 l.bytes

abbrev pub decreases-loop-rest : goal.decreases-loop-rest
decreases-loop-rest l = length l.rest
