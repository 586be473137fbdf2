use Rattle.std.proofs.Common.{◌≡◌, false, take}
use Rattle.calendar.specs.Due.{clocks_of, is_due}
use Rattle.calendar.proofs.domains.is_due_in.Given as goal

abbrev pub invariant-loop-clock : goal.invariant-loop-clock
invariant-loop-clock l = is_due (clocks_of l.domain (take l.clock-index l.clocks)) l.at ≡ false
