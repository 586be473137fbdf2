use Rattle.std.proofs.Common.{◌∙◌}
use Rattle.fsm_lowering.proofs.InPlace.{enter_refusal-case, condition_made-case, open_case-entered}
use Rattle.fsm_lowering.proofs.conditions.begin_case.Goals as goal

pub returns-in-Ok-clause-begun : goal.returns-in-Ok-clause-begun
returns-in-Ok-clause-begun c =
    let told = c.in-Ok.ensures.entered in
    let here = c.requires.in_place in (
      enter_refusal-case c.args.pool.now c.args.b.now c.args.patterns c.args.register here told.0,
      told.1,
      told.2 ∙ condition_made-case c.args.pool.now c.args.b.now c.args.patterns c.args.register here,
      rw told.1 (open_case-entered c.args.pool.now c.args.b.now c.args.patterns c.args.register here),
    )
