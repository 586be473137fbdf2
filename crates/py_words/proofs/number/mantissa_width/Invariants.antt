use Rattle.std.proofs.Common.{◌≡◌, ◌+◌, drop, length, take_while}
use Rattle.std.specs.Prelude.{not}
use Rattle.py_words.specs.Words_of.{begins_exponent}
use Rattle.py_words.proofs.number.mantissa_width.Given as goal

abbrev pub invariant-loop-i : goal.invariant-loop-i
invariant-loop-i l = l.i + length (take_while (λ b. not (begins_exponent b)) (drop l.i l.bytes)) ≡ length (take_while (λ b. not (begins_exponent b)) l.bytes)
