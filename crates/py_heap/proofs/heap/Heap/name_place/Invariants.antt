use Rattle.std.proofs.Common.{◌≡◌, ◌*◌, drop}
use Rattle.py_heap.specs.Heaps.{seen}
use Rattle.py_heap.specs.Objects.{is_named}
use Rattle.py_heap.specs.Members.{value_place}
use Rattle.py_heap.proofs.heap.Heap.name_place.Given as goal

abbrev pub invariant-loop-i : goal.invariant-loop-i
invariant-loop-i l =
    value_place (is_named (seen l.frozen l.self) l.name) (2 * l.i) (drop (2 * l.i) l.row) ≡ value_place (is_named (seen l.frozen l.self) l.name) 0 l.row
