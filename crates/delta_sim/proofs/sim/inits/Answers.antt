use Rattle.delta_sim.proofs.Lives.{inits_turn}
use Rattle.delta_sim.proofs.sim.inits.Goals as goal

pub loop-s-preserved : goal.loop-s-preserved
loop-s-preserved c =
    inits_turn c.args.design.now.pool.signals c.loop-s.s c.sig_at.result.now c.loop-s.inits.items c.push.new.self.items _ c.sig_at.ensures c.in_ok-push.ensures.items c.loop-s.invariant
