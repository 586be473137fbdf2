use Rattle.std.proofs.Common.{◌≡◌, map, take}
use Rattle.domain_transforms.specs.Changes.{id_of}
use Rattle.domain_transforms.specs.Renamed.{renamed_write}
use Rattle.domain_transforms.proofs.renaming.renamed_writes.Given as goal

abbrev pub invariant-loop-write : goal.invariant-loop-write
invariant-loop-write l = l.all ≡ map (renamed_write l.names (id_of l.ids)) (take l.write-index l.write-items)
