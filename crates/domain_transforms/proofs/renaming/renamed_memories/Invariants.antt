use Rattle.std.proofs.Common.{◌≡◌, map, take}
use Rattle.domain_transforms.specs.Changes.{id_of}
use Rattle.domain_transforms.specs.Renamed.{renamed_memory}
use Rattle.domain_transforms.proofs.renaming.renamed_memories.Given as goal

abbrev pub invariant-loop-memory : goal.invariant-loop-memory
invariant-loop-memory l = l.all ≡ map (renamed_memory l.names (id_of l.ids)) (take l.memory-index l.memory-items)
