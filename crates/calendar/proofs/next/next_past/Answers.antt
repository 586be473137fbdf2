use Rattle.std.proofs.Common.{arith}
use Rattle.calendar.proofs.Turns.{past_of_moment}
use Rattle.calendar.proofs.next.next_past.Goals as goal

pub returns-else-after-clock : goal.returns-else-after-clock
returns-else-after-clock c = past_of_moment c.args.clock.now c.args.after c.requires.clock (omega (arith, c.if-after-clock.false))
