use Rattle.std.proofs.Common.{◌≡◌, length, Some, slice_get, slice_index_or, arith}
use Rattle.std.proofs.lemmas.Option.{slice_get-get_or}
use Rattle.design_ir.specs.declared.ids.ExprId.{ExprId}
use Rattle.module_dsl.proofs.Lists.{below_at}
use Rattle.module_dsl.proofs.TargetWalks.{reached_turn}
use Rattle.module_dsl.proofs.target.Walk.reach_all.Goals as goal

pub reach-requires : goal.reach-requires
reach-requires c =
    omega (arith, below_at (length c.args.self.now.marks.items) c.args.items.now c.loop-e.e-index (record { 0 = 0 }) c.requires c.loop-e-test.true, c.loop-e.invariant.size)

pub loop-e-preserved : goal.loop-e-preserved
loop-e-preserved c =
    let i = c.loop-e.e-index in
    let x : ExprId = slice_index_or c.args.items.now i (record { 0 = 0 }) in
    let at : slice_get c.args.items.now i ≡ Some x = slice_get-get_or c.args.items.now i (record { 0 = 0 }) c.loop-e-test.true in
    let old = c.args.self.now in
    let mid = c.loop-e.self in
    let new = c.reach.new.self in
    reached_turn c.args.items.now i x old.marks.items mid.marks.items new.marks.items old.waiting.items mid.waiting.items new.waiting.items at c.loop-e.invariant c.in_ok-reach.ensures
