use Rattle.std.proofs.Common.{◌≡◌, length}
use Rattle.py_heap.specs.Heaps.{seen}
use Rattle.elab_wrappers.specs.Wrappers.{pairs_of_row}
use Rattle.elab_wrappers.proofs.GivenLaws.{found_so}
use Rattle.elab_wrappers.proofs.names.pairs_of_row.Given as goal

abbrev pub invariant-loop-rest : goal.invariant-loop-rest
invariant-loop-rest l = found_so l.pairs (pairs_of_row (seen l.frozen l.heap) l.rest) ≡ pairs_of_row (seen l.frozen l.heap) l.row

abbrev pub decreases-loop-rest : goal.decreases-loop-rest
decreases-loop-rest l = length l.rest
