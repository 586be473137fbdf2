use Rattle.std.proofs.Common.{◌≡◌, true, length}
use Rattle.py_heap.specs.Heaps.{seen}
use Rattle.elab_components.specs.ComponentClasses.{behind_members}
use Rattle.elab_components.specs.Interfaces.{members_of_row}
use Rattle.elab_components.proofs.interfaces.members_of_row.Given as goal

abbrev pub invariant-loop-rest : goal.invariant-loop-rest
invariant-loop-rest l =
    behind_members true l.members (members_of_row (seen l.frozen l.heap) l.store l.rest) ≡ members_of_row (seen l.frozen l.heap) l.store l.row

abbrev pub decreases-loop-rest : goal.decreases-loop-rest
decreases-loop-rest l = length l.rest
