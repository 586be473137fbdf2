use Rattle.std.proofs.Common.{◌≡◌, ◌+◌, drop}
use Rattle.py_lexer.specs.Names.{name_width}
use Rattle.py_lexer.proofs.names.name_width.Given as goal

abbrev pub invariant-loop-i : goal.invariant-loop-i
invariant-loop-i l = l.i + name_width (drop l.i l.cs) ≡ name_width l.cs
