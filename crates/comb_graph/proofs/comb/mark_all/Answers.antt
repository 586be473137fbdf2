use Rattle.std.proofs.Common.{◌≡◌, length, Some, slice_get, slice_index_or, arith}
use Rattle.std.proofs.lemmas.Option.{slice_get-get_or}
use Rattle.design_ir.specs.declared.ids.ExprId.{ExprId}
use Rattle.comb_graph.proofs.GraphBelow.{below_at}
use Rattle.comb_graph.proofs.CombMarks.{numbers_turn}
use Rattle.comb_graph.proofs.comb.mark_all.Goals as goal

pub mark-requires : goal.mark-requires
mark-requires c =
    omega (arith, below_at (length c.args.exprs.now.items) c.args.items.now c.loop-e.e-index (record { 0 = 0 }) c.requires c.loop-e-test.true, c.loop-e.invariant.size)

pub loop-e-preserved : goal.loop-e-preserved
loop-e-preserved c =
    let i = c.loop-e.e-index in
    let x : ExprId = slice_index_or c.args.items.now i (record { 0 = 0 }) in
    let at : slice_get c.args.items.now i ≡ Some x = slice_get-get_or c.args.items.now i (record { 0 = 0 }) c.loop-e-test.true in
    numbers_turn c.args.items.now i x c.args.exprs.now.items c.loop-e.exprs.items c.mark.new.marks.items at c.loop-e.invariant c.mark.ensures
