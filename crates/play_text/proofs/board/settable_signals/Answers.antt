use Rattle.std.proofs.Common.{◌∙◌, ap, length}
use Rattle.std.specs.Prelude.{replicate, false}
use Rattle.play_text.proofs.BoardLaws.{settable_marks}
use Rattle.play_text.proofs.board.settable_signals.Goals as goal

pub returns : goal.returns
returns c =
    let items = c.in_ok-marks.ensures.items_if_clones_equal (λ y e. e) ∙ ap (λ n. replicate n false) c.signals.ensures in
    let len = c.in_ok-marks.ensures.len ∙ c.signals.ensures in
    settable_marks c.args.design.now (length c.args.design.now.pool.signals) c.in_ok-marks.marks.len c.in_ok-marks.marks.items c.deref_mut.result.now c.mark_inputs.new.marks c.deref_mut-2.result.now
    c.unmark_clocks.new.marks items len c.deref_mut.ensures.value c.mark_inputs.ensures c.deref_mut-2.ensures.value c.unmark_clocks.ensures
