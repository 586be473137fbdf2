use Rattle.std.proofs.Common.{◌≡◌, [], length, slice_index_or, ap}
use Rattle.design_ir.specs.declared.ids.ExprId.{ExprId}
use Rattle.sim_plans.specs.Driven.{numbers_of}
use Rattle.sim_plans.proofs.Items.{below_next}
use Rattle.sim_plans.proofs.Likes.{flat_turn, flat_end}
use Rattle.sim_plans.proofs.Turns.{any_default}
use Rattle.sim_plans.proofs.targets.joined.Goals as goal

pub loop-e-preserved : goal.loop-e-preserved
loop-e-preserved c =
    let items = c.as_slice-e-items.result.now in
    let e : ExprId = slice_index_or items c.loop-e.e-index (record { 0 = 0 }) in
    let is : e ≡ slice_index_or items c.loop-e.e-index e = any_default items c.loop-e.e-index (record { 0 = 0 }) e c.loop-e-test.true in
    record {
      there = below_next (length c.args.all.now) items c.loop-e.e-index e c.loop-e-test.true is c.loop-e.invariant.there;
      like = flat_turn (λ (e : ExprId). numbers_of (slice_index_or c.args.all.now e.0 [])) items c.loop-e.e-index e (numbers_of c.loop-e.signals) (numbers_of c.add_new.new.signals) (numbers_of c.at.result.now) _ c.loop-e-test.true is (ap numbers_of c.at.ensures) c.in_ok-add_new.ensures c.loop-e.invariant.like;
    }

pub returns : goal.returns
returns c =
    flat_end (λ (e : ExprId). numbers_of (slice_index_or c.args.all.now e.0 [])) c.as_slice-e-items.result.now c.loop-e.e-index (numbers_of c.loop-e.signals) _ c.loop-e-test.false c.loop-e.invariant.like
