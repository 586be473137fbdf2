use Rattle.std.proofs.Common.{◌≡◌, ◌*◌, drop, ◌++◌}
use Rattle.py_heap.specs.Dicts.{value_row}
use Rattle.py_heap.proofs.dicts.value_row.Given as goal

abbrev pub invariant-loop-i : goal.invariant-loop-i
invariant-loop-i l = l.values ++ value_row (drop (2 * l.i) l.row) ≡ value_row l.row
