use Rattle.std.proofs.Common.{subst, sym}
use Rattle.design_ir.proofs.NumbersFit.{FitsSignals}
use Rattle.sim_plans.specs.Tasks.{picked}
use Rattle.sim_plans.proofs.WritesFit.{put_fits}
use Rattle.delta_sim.proofs.run.run_task.Goals as goal

pub returns-clause-next_fits : goal.returns-clause-next_fits
returns-clause-next_fits c =
    let p = c.args.design.now.pool in
    subst (FitsSignals p) (sym c.put_task.ensures) (put_fits p c.args.env.now (picked c.get-process.result.now.body c.args.task.now.statements) c.begin.new.cur c.begin.ensures.fits)
