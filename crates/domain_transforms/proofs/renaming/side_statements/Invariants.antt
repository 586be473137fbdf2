use Rattle.std.proofs.Common.{◌≡◌, take}
use Rattle.domain_transforms.specs.Changes.{id_of}
use Rattle.domain_transforms.specs.Renamed.{side_statements}
use Rattle.domain_transforms.proofs.renaming.side_statements.Given as goal

abbrev pub invariant-loop-process : goal.invariant-loop-process
invariant-loop-process l = l.body ≡ side_statements l.names (id_of l.ids) l.side (take l.process-index l.processes)
