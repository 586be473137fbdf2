use Rattle.std.proofs.Common.{take}
use Rattle.calendar.proofs.Nexts.{next_more, next_is_below}
use Rattle.calendar.proofs.next.next_toggle.Goals as goal

pub loop-clock-preserved : goal.loop-clock-preserved
loop-clock-preserved c =
    next_more c.args.clocks.now c.loop-clock.clock-index _ c.args.after c.loop-clock.least c.next_of.result c.earlier-least.result c.loop-clock-test.true c.loop-clock.invariant c.next_of.ensures c.earlier-least.ensures

pub returns-clause-below : goal.returns-clause-below
returns-clause-below c = next_is_below (take c.loop-clock.clock-index c.args.clocks.now) c.args.after c.loop-clock.least c.loop-clock.invariant
