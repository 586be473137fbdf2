use Rattle.std.proofs.Common.{◌≡◌, ◌-◌}
use Rattle.py_heap.specs.Heaps.{seen}
use Rattle.py_heap.specs.Names.{in_chain}
use Rattle.py_heap.proofs.heap.Heap.in_chain.Given as goal

abbrev pub invariant-loop-turn : goal.invariant-loop-turn
invariant-loop-turn l =
    in_chain (l.scopes - l._turn) (seen l.frozen l.self) l.name l.at ≡ in_chain l.scopes (seen l.frozen l.self) l.name l.fn.first
