use Rattle.std.proofs.Common.{◌≡◌, drop}
use Rattle.design_ir.specs.Tests.{ascends}
use Rattle.design_ir.proofs.design.ascend.Given as goal

abbrev pub invariant-loop-d : goal.invariant-loop-d
invariant-loop-d l = ascends l.count l.least (drop l.d-index l.domains) ≡ ascends l.count 0 l.domains
