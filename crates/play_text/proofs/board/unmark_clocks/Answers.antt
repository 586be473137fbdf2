use Rattle.play_text.specs.BoardMarks.{unmark_clock}
use Rattle.play_text.proofs.BoardLaws.{fold_turn}
use Rattle.play_text.proofs.board.unmark_clocks.Goals as goal

pub loop-d-preserved : goal.loop-d-preserved
loop-d-preserved c =
    fold_turn unmark_clock c.args.design.now.domains c.loop-d.d c.domain.result.now c.loop-d.marks c.put_mark.new.marks _ c.domain.ensures c.put_mark.ensures c.loop-d.invariant
