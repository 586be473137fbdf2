use Rattle.std.proofs.Common.{◌≡◌}
use Rattle.py_lexer.proofs.chars.all_chars.Given as goal

abbrev pub invariant-loop-c : goal.invariant-loop-c
invariant-loop-c l = l.all.items ≡ l.yielded
