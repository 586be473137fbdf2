use Rattle.std.proofs.Common.{◌≡◌, drop, fold}
use Rattle.play_text.specs.BoardMarks.{unmark_clock}
use Rattle.play_text.proofs.board.unmark_clocks.Given as goal

abbrev pub invariant-loop-d : goal.invariant-loop-d
invariant-loop-d l = fold unmark_clock l.marks (drop l.d l.design.domains) ≡ fold unmark_clock l.fn.marks l.design.domains
