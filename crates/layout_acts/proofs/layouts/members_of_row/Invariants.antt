use Rattle.std.proofs.Common.{◌≡◌, ◌++◌, length}
use Rattle.py_heap.specs.Heaps.{seen}
use Rattle.layout_acts.specs.Layouts.{members_of_row}
use Rattle.layout_acts.proofs.layouts.members_of_row.Given as goal

abbrev pub invariant-loop-rest : goal.invariant-loop-rest
invariant-loop-rest l =
    l.members ++ members_of_row (seen l.shown.frozen.now l.shown.heap.now) l.rest ≡ members_of_row (seen l.shown.frozen.now l.shown.heap.now) l.row

abbrev pub decreases-loop-rest : goal.decreases-loop-rest
decreases-loop-rest l = length l.rest
