use Rattle.std.proofs.Common.{◌≡◌, ◌∙◌, [], ◌++◌, refl, sym, length, Some, slice_get}
use Rattle.std.specs.List.{cons_option}
use Rattle.std.proofs.lemmas.Option.{slice_get_read}
use Rattle.comb_graph.proofs.GraphRows.{filter_more}
use Rattle.flat_design.specs.Writes.{cut}
use Rattle.flat_design.proofs.pieces.cut_writes.Goals as goal

pub loop-w-preserved : goal.loop-w-preserved
loop-w-preserved c =
    let whole = c.args.whole.now in
    let i = c.loop-w.w-index in
    let f = cut c.args.low c.args.width in
    let at : slice_get whole i ≡ Some c.w-item.result = slice_get_read whole (length whole) i c.w-item.result refl c.loop-w-test.true c.w-item.is in
    c.in_ok-push_some.ensures ∙ (λ t. c.loop-w.invariant t ++ cons_option (c.in_ok-piece.ensures t) []) ∙ sym (filter_more f whole i c.w-item.result at)
