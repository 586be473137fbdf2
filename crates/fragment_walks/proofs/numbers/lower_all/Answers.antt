use Rattle.std.proofs.Common.{◌≡◌, ◌∙◌, ◌∷◌, [], length, take, Some, slice_get, slice_index_or, ap, arith}
use Rattle.std.proofs.lemmas.Option.{slice_get-get_or}
use Rattle.design_ir.specs.declared.ids.ExprId.{ExprId}
use Rattle.fragment_walks.specs.Marks.{numbers}
use Rattle.fragment_walks.proofs.Lists.{below_at, map-push}
use Rattle.fragment_walks.proofs.NumberLaws.{lowered_turn, length_lowered}
use Rattle.fragment_walks.proofs.numbers.lower_all.Goals as goal

pub lower-requires : goal.lower-requires
lower-requires c =
    let same = ap length c.loop-e.invariant ∙ length_lowered (numbers (take c.loop-e.e-index c.args.items.now)) c.args.number c.args.firsts.now.items in
    omega (arith, below_at (length c.args.firsts.now.items) c.args.items.now c.loop-e.e-index (record { 0 = 0 }) c.requires c.loop-e-test.true, same)

pub loop-e-preserved : goal.loop-e-preserved
loop-e-preserved c =
    let i = c.loop-e.e-index in
    let x : ExprId = slice_index_or c.args.items.now i (record { 0 = 0 }) in
    let at : slice_get c.args.items.now i ≡ Some x = slice_get-get_or c.args.items.now i (record { 0 = 0 }) c.loop-e-test.true in
    lowered_turn numbers c.args.number c.args.items.now i x (x.0 ∷ []) c.args.firsts.now.items c.loop-e.firsts.items c.lower.new.firsts.items at (map-push (λ (e : ExprId). e.0) (take i c.args.items.now) x) c.loop-e.invariant c.lower.ensures
