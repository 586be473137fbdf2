use Rattle.std.proofs.Common.{◌≡◌, drop}
use Rattle.py_lexer.specs.Signs.{is_in}
use Rattle.py_lexer.proofs.signs.is_in.Given as goal

abbrev pub invariant-loop-b : goal.invariant-loop-b
invariant-loop-b l = is_in (drop l.b-index l.text) l.c ≡ is_in l.text l.c
