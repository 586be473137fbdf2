use Rattle.std.proofs.Common.{◌≡◌, ◌-◌, drop, length}
use Rattle.std.specs.Prelude.{reverse, pos, ◌+ℤ◌}
use Rattle.py_builtins.specs.Sequences.{numbered}
use Rattle.py_builtins.proofs.tuples.numbered_back.Given as goal

abbrev pub invariant-loop-i : goal.invariant-loop-i
invariant-loop-i l = reverse l.rows.items ≡ numbered (l.n +ℤ pos (length l.xs - l.i)) (drop (length l.xs - l.i) l.xs)
