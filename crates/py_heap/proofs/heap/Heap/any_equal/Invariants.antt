use Rattle.std.proofs.Common.{◌≡◌, ℕ, ◌<◌, Bool, Result, drop}
use Rattle.py_values.specs.declared.val.ValueStop.{ValueStop}
use Rattle.py_values.specs.Runs.{Charged}
use Rattle.py_heap.specs.Heaps.{seen}
use Rattle.py_heap.specs.Equality.{equal}
use Rattle.py_heap.specs.Members.{any_equal}
use Rattle.py_heap.proofs.heap.Heap.any_equal.Given as goal

-- what is owed for the elements that are left is owed for all
abbrev pub invariant-loop-x : goal.invariant-loop-x
invariant-loop-x l =
    (0 < l.left.left)
    × ((r : Result Bool ValueStop) (left : ℕ) → Charged r l.left.left left (any_equal (equal (seen l.frozen l.self)) l.a (drop l.x-index l.row)) → Charged r l.fn.left.left left (any_equal (equal (seen l.frozen l.self)) l.a l.row))
