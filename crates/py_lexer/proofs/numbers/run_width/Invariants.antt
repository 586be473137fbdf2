use Rattle.std.proofs.Common.{◌≡◌, ◌+◌, drop}
use Rattle.py_lexer.specs.Numbers.{run_width}
use Rattle.py_lexer.proofs.numbers.run_width.Given as goal

abbrev pub invariant-loop-i : goal.invariant-loop-i
invariant-loop-i l = l.i + run_width l.base (drop l.i l.cs) ≡ run_width l.base l.cs
