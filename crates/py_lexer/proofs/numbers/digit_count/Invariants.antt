use Rattle.std.proofs.Common.{◌≡◌, ◌+◌, drop, length, take_while}
use Rattle.py_lexer.specs.Numbers.{is_digit}
use Rattle.py_lexer.proofs.numbers.digit_count.Given as goal

abbrev pub invariant-loop-i : goal.invariant-loop-i
invariant-loop-i l = l.i + length (take_while (is_digit l.base) (drop l.i l.cs)) ≡ length (take_while (is_digit l.base) l.cs)
