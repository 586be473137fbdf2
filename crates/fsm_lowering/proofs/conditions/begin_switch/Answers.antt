use Rattle.fsm_lowering.proofs.InPlace.{enter_refusal-switch, open_switch-entered}
use Rattle.fsm_lowering.proofs.conditions.begin_switch.Goals as goal

pub returns-in-Ok-clause-begun : goal.returns-in-Ok-clause-begun
returns-in-Ok-clause-begun c =
    let told = c.in-Ok.ensures.entered in
    (enter_refusal-switch c.args.pool.now c.args.b.now c.args.subject told.0, told.1, rw told.1 (open_switch-entered c.args.pool.now c.args.b.now c.args.subject))
