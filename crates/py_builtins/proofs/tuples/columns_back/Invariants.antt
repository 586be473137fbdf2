use Rattle.std.proofs.Common.{◌≡◌, ◌-◌}
use Rattle.std.specs.Prelude.{reverse}
use Rattle.py_heap.specs.Heaps.{seen}
use Rattle.py_builtins.specs.Sequences.{columns}
use Rattle.py_builtins.proofs.tuples.columns_back.Given as goal

abbrev pub invariant-loop-i : goal.invariant-loop-i
invariant-loop-i l = reverse l.rows.items ≡ columns (seen l.frozen l.heap) l.vs l.i (l.n - l.i)
