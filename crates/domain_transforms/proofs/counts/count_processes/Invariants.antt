use Rattle.std.proofs.Common.{◌≡◌, ◌+◌, take}
use Rattle.std.specs.Prelude.{min}
use Rattle.domain_transforms.specs.Counted.{processes_count}
use Rattle.domain_transforms.proofs.counts.count_processes.Given as goal

abbrev pub invariant-loop-process : goal.invariant-loop-process
invariant-loop-process l = l.count ≡ min 65537 (l.initial.count + processes_count (take l.process-index l.processes))
