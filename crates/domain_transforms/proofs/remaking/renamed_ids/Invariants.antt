use Rattle.std.proofs.Common.{◌≡◌, map, take}
use Rattle.domain_transforms.specs.Changes.{id_of}
use Rattle.domain_transforms.proofs.remaking.renamed_ids.Given as goal

abbrev pub invariant-loop-e : goal.invariant-loop-e
invariant-loop-e l = l.all ≡ map (id_of l.ids) (take l.e-index l.e-items)
