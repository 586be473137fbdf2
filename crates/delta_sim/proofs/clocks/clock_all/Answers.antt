use Rattle.std.proofs.Common.{◌<◌, ◌∷◌, [], ◌∙◌, sym, subst, length}
use Rattle.design_ir.specs.Steps.{clocked}
use Rattle.design_ir.proofs.NumbersFit.{FitsSignals, element}
use Rattle.sim_plans.proofs.Clocking.{get_of}
use Rattle.sim_plans.proofs.EdgesFit.{clocks_fit, clock_length}
use Rattle.sim_plans.proofs.Turns.{fold_turn}
use Rattle.delta_sim.proofs.clocks.clock_all.Goals as goal

pub loop-k-preserved : goal.loop-k-preserved
loop-k-preserved c =
    let d = c.args.design.now in
    let env = c.args.env.now in
    let listed = c.args.listed.now in
    let k = c.loop-k.k in
    let there : k < length d.processes = subst (λ xs. k < length xs) c.processes-all.ensures.value (subst (λ n. k < n) c.len-k-end.ensures c.loop-k-test.true) in
    let p = element d.processes k there in
    let e = c.clock.ensures.held p.0 p.1 in
    record {
      signals = clock_length d env listed c.loop-k.held c.clock.new.held p.0 e ∙ c.loop-k.invariant.signals;
      fits = subst (FitsSignals d.pool) (sym e) (clocks_fit d env listed (p.0 ∷ []) c.loop-k.held c.count.ensures.rules c.loop-k.invariant.fits);
      count = c.clock.ensures.count ∙ c.loop-k.invariant.count;
      numbers = c.clock.ensures.numbers;
      all = fold_turn (clocked d env listed) c.loop-k.held c.clock.new.held _ d.processes k p.0 there (get_of d.processes k p.0 p.1) e c.loop-k.invariant.all;
    }
