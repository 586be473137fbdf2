use Rattle.std.proofs.Common.{◌≡◌, ◌*◌, ◌++◌, drop}
use Rattle.py_operators.specs.Elements.{keys_in}
use Rattle.py_operators.proofs.goes_over.keys_in.Given as goal

abbrev pub invariant-loop-i : goal.invariant-loop-i
invariant-loop-i l = l.keys ++ keys_in (drop (2 * l.i) l.row) ≡ keys_in l.row
