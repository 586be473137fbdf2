use Rattle.std.proofs.Common.{take}
use Rattle.calendar.specs.Moments.{IsNext}
use Rattle.calendar.proofs.next.next_toggle.Given as goal

-- the least so far
abbrev pub invariant-loop-clock : goal.invariant-loop-clock
invariant-loop-clock l = IsNext (take l.clock-index l.clocks) l.after l.least
