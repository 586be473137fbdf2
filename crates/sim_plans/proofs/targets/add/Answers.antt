use Rattle.sim_plans.proofs.Likes.{there_already}
use Rattle.sim_plans.proofs.targets.add.Goals as goal

pub returns-then-has : goal.returns-then-has
returns-then-has c = there_already c.args.signals.now c.args.s c.has.result c.if-has.true c.has.ensures
