use Rattle.std.proofs.Common.{◌≡◌, ◌<◌, length, slice_index_or, ◌∙◌}
use Rattle.design_ir.specs.declared.ids.DomainId.{DomainId}
use Rattle.design_ir.specs.Steps.{toggle}
use Rattle.sim_plans.proofs.EdgesFit.{toggle_fits, toggle_length}
use Rattle.sim_plans.proofs.Turns.{fold_turn, all_here, any_default}
use Rattle.delta_sim.proofs.clocks.toggle_all.Goals as goal

pub loop-d-preserved : goal.loop-d-preserved
loop-d-preserved c =
    let c' = c.args.design.now in
    let listed = c.args.listed.now in
    let i = c.loop-d.d-index in
    let d : DomainId = slice_index_or listed i (record { 0 = 0 }) in
    let is : d ≡ slice_index_or listed i d = any_default listed i (record { 0 = 0 }) d c.loop-d-test.true in
    record {
      there = (all_here (λ (x : DomainId). x.0 < length c'.domains) listed i d c.loop-d-test.true is c.loop-d.invariant.there).1;
      signals = toggle_length c' c.loop-d.cur c.toggle.new.cur d c.toggle.ensures ∙ c.loop-d.invariant.signals;
      fits = toggle_fits c' c.loop-d.cur c.toggle.new.cur d c.processes.ensures.rules c.toggle.ensures c.loop-d.invariant.fits;
      all = fold_turn (toggle c'.domains) c.loop-d.cur c.toggle.new.cur _ listed i d c.loop-d-test.true is c.toggle.ensures c.loop-d.invariant.all;
    }
