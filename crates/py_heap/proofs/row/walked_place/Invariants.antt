use Rattle.std.proofs.Common.{◌≡◌, ◌*◌, drop}
use Rattle.py_heap.specs.Keys.{has_code}
use Rattle.py_heap.specs.Members.{value_place}
use Rattle.py_heap.proofs.row.walked_place.Given as goal

abbrev pub invariant-loop-i : goal.invariant-loop-i
invariant-loop-i l =
    value_place (has_code l.code) (2 * l.i) (drop (2 * l.i) l.row) ≡ value_place (has_code l.code) (2 * l.from) (drop (2 * l.from) l.row)
