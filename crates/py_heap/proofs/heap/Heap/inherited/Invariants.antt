use Rattle.std.proofs.Common.{◌≡◌, ◌+◌, ◌-◌}
use Rattle.py_heap.specs.Heaps.{seen}
use Rattle.py_heap.specs.Objects.{inherited_in}
use Rattle.py_heap.proofs.heap.Heap.inherited.Given as goal

abbrev pub invariant-loop-turn : goal.invariant-loop-turn
invariant-loop-turn l =
    inherited_in (l.fn.class.0 + 1 - l._turn) (seen l.frozen l.self) l.name l.at ≡ inherited_in (l.fn.class.0 + 1) (seen l.frozen l.self) l.name l.fn.class
