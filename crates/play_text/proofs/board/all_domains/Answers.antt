use Rattle.std.proofs.Common.{◌∙◌, ◌++◌, ◌∷◌, [], ap}
use Rattle.play_text.proofs.BoardLaws.{copy_turn}
use Rattle.play_text.proofs.board.all_domains.Goals as goal

pub loop-d-preserved : goal.loop-d-preserved
loop-d-preserved c =
    let grown = c.in_ok-push.ensures.ok ∙ ap (λ x. c.loop-d.domains ++ x ∷ []) c.in_ok-copied_domain.ensures in
    copy_turn c.args.design.now.domains c.loop-d.d c.domain.result.now c.loop-d.domains c.push.new.self _ c.domain.ensures grown c.loop-d.invariant
