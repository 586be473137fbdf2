use Rattle.std.proofs.Common.{◌≡◌, ◌+◌, drop}
use Rattle.py_lexer.specs.Characters.{line_width}
use Rattle.py_lexer.proofs.chars.line_width.Given as goal

abbrev pub invariant-loop-i : goal.invariant-loop-i
invariant-loop-i l = l.i + line_width (drop l.i l.cs) ≡ line_width l.cs
