use Rattle.std.proofs.Common.{◌≡◌, map}
use Rattle.clock_domains.specs.Resolved.{process_in}
use Rattle.clock_domains.proofs.domains.processes_made.Given as goal

abbrev pub invariant-loop-process : goal.invariant-loop-process
invariant-loop-process l = l.made ≡ map (process_in l.domains) l.yielded
