use Rattle.std.proofs.Common.{◌≡◌, ℕ, ◌+◌, ◌-◌, ◌*◌, ◌<◌, Bool, Result, drop, length}
use Rattle.py_values.specs.declared.val.ValueStop.{ValueStop}
use Rattle.py_values.specs.Runs.{Charged}
use Rattle.py_heap.specs.Heaps.{seen}
use Rattle.py_heap.specs.Equality.{deeper, all_equal, equal_to}
use Rattle.py_heap.proofs.heap.Heap.+equality.Given as goal

abbrev pub decreases-equal_to : goal.decreases-equal_to
decreases-equal_to l = 4 * l.depth + 2

abbrev pub decreases-rows_equal : goal.decreases-rows_equal
decreases-rows_equal l = 4 * l.depth + 1

abbrev pub decreases-elements_equal : goal.decreases-elements_equal
decreases-elements_equal l = 4 * l.depth

abbrev pub decreases-pair_equal : goal.decreases-pair_equal
decreases-pair_equal l = 4 * l.depth + 3

-- what is owed for the elements that are left is owed for all
abbrev pub invariant-elements_equal-loop-i : goal.invariant-elements_equal-loop-i
invariant-elements_equal-loop-i l =
    (0 < l.left.left)
    × ((r : Result Bool ValueStop) (left : ℕ) → Charged r l.left.left left (all_equal (equal_to (l.depth - 1) (seen l.frozen l.self)) (drop l.i l.xs) (drop l.i l.ys)) → Charged r l.fn.left.left left (deeper l.depth (seen l.frozen l.self) l.xs l.ys))
