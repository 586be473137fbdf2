use Rattle.std.proofs.Common.{◌≡◌, drop}
use Rattle.domain_transforms.specs.Controlled.{name_after}
use Rattle.domain_transforms.proofs.controls.name_after.Given as goal

abbrev pub invariant-loop-pair : goal.invariant-loop-pair
invariant-loop-pair l = name_after (drop l.pair-index l.pair-items) l.name ≡ name_after l.names l.name
