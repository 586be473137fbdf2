use Rattle.sim_plans.proofs.Rooting.{range_turn}
use Rattle.sim_plans.proofs.group.numbers.Goals as goal

pub loop-i-preserved : goal.loop-i-preserved
loop-i-preserved c = range_turn c.loop-i.i c.loop-i.all.items c.push.new.self.items c.loop-i.invariant c.in_ok-push.ensures.items
