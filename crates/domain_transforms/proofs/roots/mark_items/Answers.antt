use Rattle.std.proofs.Common.{◌≡◌, Some, slice_get, slice_index_or, length, take, arith}
use Rattle.std.proofs.lemmas.Option.{slice_get-get_or}
use Rattle.design_ir.specs.declared.ids.ExprId.{ExprId}
use Rattle.fragment_walks.proofs.Lists.{below_at}
use Rattle.domain_transforms.proofs.RootLaws.{items_turn, same_length}
use Rattle.domain_transforms.proofs.roots.mark_items.Goals as goal

pub mark-requires : goal.mark-requires
mark-requires c =
    let items = c.args.items.now in
    let i = c.loop-e.e-index in
    let old = c.args.marks.now.items in
    omega (arith, below_at (length old) items i (record { 0 = 0 }) c.requires c.loop-e-test.true, same_length (take i items) old c.loop-e.marks.items c.loop-e.invariant)

pub loop-e-preserved : goal.loop-e-preserved
loop-e-preserved c =
    let items = c.args.items.now in
    let i = c.loop-e.e-index in
    let x : ExprId = slice_index_or items i (record { 0 = 0 }) in
    let at : slice_get items i ≡ Some x = slice_get-get_or items i (record { 0 = 0 }) c.loop-e-test.true in
    items_turn items i x c.args.marks.now.items c.loop-e.marks.items c.mark.new.marks.items at c.loop-e.invariant c.mark.ensures
