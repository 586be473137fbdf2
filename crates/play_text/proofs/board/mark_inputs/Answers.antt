use Rattle.play_text.specs.BoardMarks.{mark_input}
use Rattle.play_text.proofs.BoardLaws.{fold_turn}
use Rattle.play_text.proofs.board.mark_inputs.Goals as goal

pub loop-i-preserved : goal.loop-i-preserved
loop-i-preserved c =
    fold_turn mark_input c.args.design.now.ports c.loop-i.i c.port.result.now c.loop-i.marks c.mark_input.new.marks _ c.port.ensures c.mark_input.ensures c.loop-i.invariant
