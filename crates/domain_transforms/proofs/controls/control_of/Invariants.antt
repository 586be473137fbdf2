use Rattle.std.proofs.Common.{◌≡◌, drop}
use Rattle.domain_transforms.specs.Controlled.{control_of}
use Rattle.domain_transforms.proofs.controls.control_of.Given as goal

abbrev pub invariant-loop-control : goal.invariant-loop-control
invariant-loop-control l = control_of (drop l.control-index l.control-items) l.name ≡ control_of l.controls l.name
