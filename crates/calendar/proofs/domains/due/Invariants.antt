use Rattle.std.proofs.Common.{◌≡◌}
use Rattle.calendar.specs.Due.{due_domains}
use Rattle.calendar.proofs.domains.due.Given as goal

-- the domains below this one are done
abbrev pub invariant-loop-number : goal.invariant-loop-number
invariant-loop-number l = l.due ≡ due_domains l.clocks l.number l.at
