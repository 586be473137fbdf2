use Rattle.std.proofs.Common.{◌<◌, length, subst, sym, ap, ◌∙◌, slice_index_or, length-set}
use Rattle.std.specs.List.{AllByRecursion}
use Rattle.design_ir.specs.declared.ids.SigId.{SigId}
use Rattle.sim_plans.proofs.Likes.{numbers_at}
use Rattle.delta_sim.proofs.Moving.{notes_more}
use Rattle.sim_plans.proofs.Taking.{take_turn, once_more, once_between}
use Rattle.sim_plans.proofs.Turns.{any_default}
use Rattle.delta_sim.proofs.Waking.{wakes_more}
use Rattle.delta_sim.proofs.wake.take.Goals as goal

pub loop-s-preserved : goal.loop-s-preserved
loop-s-preserved c =
    let first = c.args.env.now.items in
    let signals = c.args.signals.now in
    let i = c.loop-s.s-index in
    let s : SigId = slice_index_or signals i (record { 0 = 0 }) in
    let is = any_default signals i (record { 0 = 0 }) s c.loop-s-test.true in
    let below = subst (AllByRecursion (λ k. k < length first)) (numbers_at signals i s c.loop-s-test.true is) c.loop-s.invariant.below in
    let there = subst (λ n. s.0 < n) (sym c.loop-s.invariant.count) below.0 in
    let from = c.args.from.now in
    let env = c.loop-s.env.items in
    let new = c.take_one.new.env.items in
    let once = once_between first env new from s.0 there c.take_one.ensures.env c.loop-s.invariant.once in
    record {
      count = ap length c.take_one.ensures.env ∙ length-set env s.0 _ ∙ c.loop-s.invariant.count;
      below = below.1;
      once = once_more first env new from s.0 there c.take_one.ensures.env c.loop-s.invariant.once;
      all = take_turn from signals i s env new _ c.loop-s-test.true is c.take_one.ensures.env c.loop-s.invariant.all;
      waits = wakes_more c.args.plan.now.readers first env new c.args.waits.now.marks c.loop-s.waits.marks c.take_one.new.waits.marks once c.loop-s.invariant.waits c.take_one.ensures.waits;
      woken = wakes_more c.args.plan.now.processes first env new c.args.woken.now.marks c.loop-s.woken.marks c.take_one.new.woken.marks once c.loop-s.invariant.woken c.take_one.ensures.woken;
      moved = notes_more first env new c.args.moved.now.marks c.loop-s.moved.marks c.take_one.new.moved.marks c.loop-s.invariant.moved c.take_one.ensures.moved;
    }
