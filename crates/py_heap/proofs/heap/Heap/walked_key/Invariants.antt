use Rattle.std.proofs.Common.{◌≡◌, ◌*◌, drop}
use Rattle.py_heap.specs.Heaps.{seen}
use Rattle.py_heap.specs.Members.{same_key, value_place}
use Rattle.py_heap.proofs.heap.Heap.walked_key.Given as goal

abbrev pub invariant-loop-i : goal.invariant-loop-i
invariant-loop-i l =
    value_place (same_key (seen l.frozen l.self) l.k) (2 * l.i) (drop (2 * l.i) l.row) ≡ value_place (same_key (seen l.frozen l.self) l.k) 0 l.row
