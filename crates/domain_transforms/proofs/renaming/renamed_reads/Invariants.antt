use Rattle.std.proofs.Common.{◌≡◌, map, take}
use Rattle.domain_transforms.specs.Changes.{id_of}
use Rattle.domain_transforms.specs.Renamed.{renamed_read}
use Rattle.domain_transforms.proofs.renaming.renamed_reads.Given as goal

abbrev pub invariant-loop-read : goal.invariant-loop-read
invariant-loop-read l = l.all ≡ map (renamed_read l.names (id_of l.ids)) (take l.read-index l.read-items)
