use Rattle.std.proofs.Common.{◌≡◌, drop}
use Rattle.py_heap.specs.Heaps.{seen}
use Rattle.py_heap.specs.Dicts.{unpaired}
use Rattle.py_heap.proofs.DictLaws.{behind}
use Rattle.py_heap.proofs.heap.Heap.unpaired.Given as goal

-- the pairs so far, and those of what is left
abbrev pub invariant-loop-p : goal.invariant-loop-p
invariant-loop-p l = behind l.all (unpaired (seen l.frozen l.self) (drop l.p-index l.pairs)) ≡ unpaired (seen l.frozen l.self) l.pairs
