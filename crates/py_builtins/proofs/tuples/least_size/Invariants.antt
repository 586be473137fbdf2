use Rattle.std.proofs.Common.{◌≡◌, drop}
use Rattle.py_heap.specs.Heaps.{seen}
use Rattle.py_builtins.specs.Sequences.{least_size}
use Rattle.py_builtins.proofs.tuples.least_size.Given as goal

abbrev pub invariant-loop-v : goal.invariant-loop-v
invariant-loop-v l = least_size (seen l.frozen l.heap) l.least (drop l.v-index l.vs) ≡ least_size (seen l.frozen l.heap) l.n l.vs
