use Rattle.std.proofs.Common.{◌≡◌, ◌+◌, drop}
use Rattle.fragment_walks.specs.Numbers.{bounded}
use Rattle.clock_domains.specs.Stops.{processes_stop, target_stop}
use Rattle.clock_domains.proofs.drivers.first_stop.Given as goal

abbrev pub invariant-loop-number : goal.invariant-loop-number
invariant-loop-number l = processes_stop (λ i. target_stop l.on_inputs (bounded i l.leasts)) 1 l.processes ≡ processes_stop (λ i. target_stop l.on_inputs (bounded i l.leasts)) (l.number + 1) (drop l.number l.processes)
