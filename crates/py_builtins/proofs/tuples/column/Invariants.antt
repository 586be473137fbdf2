use Rattle.std.proofs.Common.{◌≡◌, take}
use Rattle.py_heap.specs.Heaps.{seen}
use Rattle.py_builtins.specs.Sequences.{column}
use Rattle.py_builtins.proofs.tuples.column.Given as goal

abbrev pub invariant-loop-v : goal.invariant-loop-v
invariant-loop-v l = l.row ≡ column (seen l.frozen l.heap) (take l.v-index l.vs) l.i
