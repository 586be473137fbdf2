use Rattle.std.proofs.Common.{◌≡◌, map, take}
use Rattle.domain_transforms.specs.Renamed.{renamed_definition}
use Rattle.domain_transforms.proofs.renaming.renamed_definitions.Given as goal

abbrev pub invariant-loop-definition : goal.invariant-loop-definition
invariant-loop-definition l = l.all ≡ map (renamed_definition l.names) (take l.definition-index l.definition-items)
