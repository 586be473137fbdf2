use Rattle.std.proofs.Common.{◌≡◌, ◌*◌, drop, []}
use Rattle.py_heap.specs.Heaps.{seen}
use Rattle.py_heap.specs.Dicts.{put_all}
use Rattle.py_heap.proofs.heap.Heap.put_all.Given as goal

abbrev pub invariant-loop-i : goal.invariant-loop-i
invariant-loop-i l = put_all (seen l.frozen l.self) l.row (drop (2 * l.i) l.pairs) ≡ put_all (seen l.frozen l.self) [] l.pairs
