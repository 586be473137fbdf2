use Rattle.std.proofs.Common.{◌≡◌, ◌∙◌, length, take, Some, slice_get, slice_index_or, ap, arith}
use Rattle.std.proofs.lemmas.Option.{slice_get-get_or}
use Rattle.design_ir.specs.declared.ids.ExprId.{ExprId}
use Rattle.fragment_walks.specs.Marks.{numbers}
use Rattle.fragment_walks.proofs.Lists.{below_at}
use Rattle.fragment_walks.proofs.Markings.{numbers_turn, length_marked}
use Rattle.fragment_walks.proofs.marks.mark_all.Goals as goal

pub mark-requires : goal.mark-requires
mark-requires c =
    let same = ap length c.loop-e.invariant ∙ length_marked (numbers (take c.loop-e.e-index c.args.items.now)) c.args.marks.now.items in
    omega (arith, below_at (length c.args.marks.now.items) c.args.items.now c.loop-e.e-index (record { 0 = 0 }) c.requires c.loop-e-test.true, same)

pub loop-e-preserved : goal.loop-e-preserved
loop-e-preserved c =
    let i = c.loop-e.e-index in
    let x : ExprId = slice_index_or c.args.items.now i (record { 0 = 0 }) in
    let at : slice_get c.args.items.now i ≡ Some x = slice_get-get_or c.args.items.now i (record { 0 = 0 }) c.loop-e-test.true in
    numbers_turn c.args.items.now i x c.args.marks.now.items c.loop-e.marks.items c.mark.new.marks.items at c.loop-e.invariant c.mark.ensures
