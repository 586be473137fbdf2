use Rattle.std.proofs.Common.{◌≡◌, ◌*◌, drop}
use Rattle.py_heap.specs.Dicts.{all_keys}
use Rattle.py_heap.proofs.dicts.all_keys.Given as goal

abbrev pub invariant-loop-i : goal.invariant-loop-i
invariant-loop-i l = all_keys (drop (2 * l.i) l.pairs) ≡ all_keys l.pairs
