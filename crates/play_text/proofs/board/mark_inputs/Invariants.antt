use Rattle.std.proofs.Common.{◌≡◌, drop, fold}
use Rattle.play_text.specs.BoardMarks.{mark_input}
use Rattle.play_text.proofs.board.mark_inputs.Given as goal

abbrev pub invariant-loop-i : goal.invariant-loop-i
invariant-loop-i l = fold mark_input l.marks (drop l.i l.design.ports) ≡ fold mark_input l.fn.marks l.design.ports
