use Rattle.std.proofs.Common.{◌∙◌, slice_index_or}
use Rattle.design_ir.specs.declared.ids.SigId.{SigId}
use Rattle.sim_plans.proofs.Taking.{begin_turn, begin_fits, begin_long}
use Rattle.sim_plans.proofs.Turns.{any_default}
use Rattle.delta_sim.proofs.run.begin.Goals as goal

pub loop-s-preserved : goal.loop-s-preserved
loop-s-preserved c =
    let p = c.args.design.now.pool in
    let signals = c.args.signals.now in
    let i = c.loop-s.s-index in
    let s : SigId = slice_index_or signals i (record { 0 = 0 }) in
    let is = any_default signals i (record { 0 = 0 }) s c.loop-s-test.true in
    record {
      count = begin_long p.signals s.0 c.loop-s.cur c.begin_one.new.cur c.begin_one.ensures ∙ c.loop-s.invariant.count;
      fits = begin_fits p c.count.ensures.rules s.0 c.loop-s.cur c.begin_one.new.cur c.begin_one.ensures c.loop-s.invariant.fits;
      all = begin_turn p.signals signals i s c.loop-s.cur c.begin_one.new.cur _ c.loop-s-test.true is c.begin_one.ensures c.loop-s.invariant.all;
    }
