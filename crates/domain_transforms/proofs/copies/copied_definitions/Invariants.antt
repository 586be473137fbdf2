use Rattle.std.proofs.Common.{◌≡◌, take}
use Rattle.domain_transforms.proofs.copies.copied_definitions.Given as goal

abbrev pub invariant-loop-definition : goal.invariant-loop-definition
invariant-loop-definition l = l.copy ≡ take l.definition-index l.definition-items
