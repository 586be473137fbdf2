use Rattle.std.proofs.Common.{◌≡◌, ◌*◌, drop, []}
use Rattle.py_heap.specs.Dicts.{tupled}
use Rattle.py_heap.proofs.heap.Heap.tupled.Given as goal

abbrev pub invariant-loop-i : goal.invariant-loop-i
invariant-loop-i l = tupled l.frozen l.self l.all (drop (2 * l.i) l.row) ≡ tupled l.frozen l.fn.self [] l.row
