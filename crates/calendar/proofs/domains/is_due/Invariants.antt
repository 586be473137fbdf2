use Rattle.std.proofs.Common.{◌≡◌, false, take}
use Rattle.calendar.specs.Due.{is_due}
use Rattle.calendar.proofs.domains.is_due.Given as goal

abbrev pub invariant-loop-clock : goal.invariant-loop-clock
invariant-loop-clock l = is_due (take l.clock-index l.clocks) l.at ≡ false
