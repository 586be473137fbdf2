use Rattle.std.proofs.Common.{◌≡◌, length}
use Rattle.py_heap.specs.Heaps.{seen}
use Rattle.elab_store.specs.Held.{held_of}
use Rattle.elab_wrappers.specs.Wrappers.{controls_of_row}
use Rattle.elab_wrappers.proofs.GivenLaws.{found_so}
use Rattle.elab_wrappers.proofs.controls.controls_of_row.Given as goal

abbrev pub invariant-loop-rest : goal.invariant-loop-rest
invariant-loop-rest l =
    found_so l.named (controls_of_row (seen l.frozen l.heap) (held_of l.elaboration) l.rest) ≡ controls_of_row (seen l.frozen l.heap) (held_of l.elaboration) l.row

abbrev pub decreases-loop-rest : goal.decreases-loop-rest
decreases-loop-rest l = length l.rest
