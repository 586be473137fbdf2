use Rattle.sim_plans.proofs.Programs.{ready_at}
use Rattle.sim_plans.proofs.compute.number.Goals as goal

pub value-requires : goal.value-requires
value-requires c =
    record { ready = ready_at c.args.design.now.pool c.args.env.now c.args.nums.now c.args.e.0 c.at.result.now c.count.ensures.rules c.requires.signals c.requires.numbers c.requires.there c.at.ensures }
