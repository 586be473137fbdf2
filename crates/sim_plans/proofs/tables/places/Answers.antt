use Rattle.sim_plans.proofs.Rooting.{range_turn}
use Rattle.sim_plans.proofs.tables.places.Goals as goal

pub loop-i-preserved : goal.loop-i-preserved
loop-i-preserved c = range_turn c.loop-i.i c.loop-i.all c.push.new.self c.loop-i.invariant c.in_ok-push.ensures.ok
