use Rattle.std.proofs.Common.{◌≡◌, map, take}
use Rattle.domain_transforms.specs.Enabling.{enabled_process}
use Rattle.domain_transforms.proofs.enabling.enabled_processes.Given as goal

abbrev pub invariant-loop-process : goal.invariant-loop-process
invariant-loop-process l = l.all ≡ map (enabled_process l.controls) (take l.process-index l.process-items)
