use Rattle.std.proofs.Common.{◌≡◌, ◌-◌, ◌++◌}
use Rattle.py_operators.specs.Sums.{copies}
use Rattle.py_operators.proofs.sums.copies.Given as goal

abbrev pub invariant-loop-turn : goal.invariant-loop-turn
invariant-loop-turn l = l.all ++ copies (l.n - l.turn) l.row ≡ copies l.n l.row
