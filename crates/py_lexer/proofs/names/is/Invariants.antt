use Rattle.std.proofs.Common.{◌≡◌, drop, bytes_eq}
use Rattle.py_lexer.proofs.names.is.Given as goal

abbrev pub invariant-loop-i : goal.invariant-loop-i
invariant-loop-i l = bytes_eq (drop l.i l.word) (drop l.i l.wanted) ≡ bytes_eq l.word l.wanted
