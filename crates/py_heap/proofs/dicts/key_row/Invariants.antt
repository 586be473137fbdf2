use Rattle.std.proofs.Common.{◌≡◌, ◌*◌, drop, ◌++◌}
use Rattle.py_heap.specs.Dicts.{key_row}
use Rattle.py_heap.proofs.dicts.key_row.Given as goal

abbrev pub invariant-loop-i : goal.invariant-loop-i
invariant-loop-i l = l.keys ++ key_row (drop (2 * l.i) l.row) ≡ key_row l.row
