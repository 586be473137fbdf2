use Rattle.std.proofs.Common.{◌≡◌, take}
use Rattle.domain_transforms.proofs.copies.copied_controls.Given as goal

abbrev pub invariant-loop-control : goal.invariant-loop-control
invariant-loop-control l = l.copy ≡ take l.control-index l.control-items
