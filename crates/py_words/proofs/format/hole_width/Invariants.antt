use Rattle.std.proofs.Common.{◌≡◌, ◌+◌, drop, length, take_while}
use Rattle.std.specs.Prelude.{not, ◌==◌}
use Rattle.py_words.proofs.format.hole_width.Given as goal

abbrev pub invariant-loop-i : goal.invariant-loop-i
invariant-loop-i l = l.i + length (take_while (λ b. not (b == 125)) (drop l.i l.bytes)) ≡ length (take_while (λ b. not (b == 125)) l.bytes)
