use Rattle.std.proofs.Common.{◌≡◌, take}
use Rattle.domain_transforms.specs.Renamed.{renamed_sides}
use Rattle.domain_transforms.proofs.renaming.renamed_sides.Given as goal

abbrev pub invariant-loop-process : goal.invariant-loop-process
invariant-loop-process l = l.sides.items ≡ renamed_sides l.names (take l.process-index l.processes)
