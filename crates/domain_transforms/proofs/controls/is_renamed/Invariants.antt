use Rattle.std.proofs.Common.{◌≡◌, drop}
use Rattle.domain_transforms.specs.Controlled.{is_renamed}
use Rattle.domain_transforms.proofs.controls.is_renamed.Given as goal

abbrev pub invariant-loop-pair : goal.invariant-loop-pair
invariant-loop-pair l = is_renamed (drop l.pair-index l.pair-items) l.name ≡ is_renamed l.names l.name
