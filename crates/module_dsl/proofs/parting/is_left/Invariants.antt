use Rattle.std.proofs.Common.{◌≡◌, drop}
use Rattle.design_ir.specs.Statements.{choices_of}
use Rattle.module_dsl.specs.Parting.{is_left}
use Rattle.module_dsl.proofs.parting.is_left.Given as goal

abbrev pub invariant-loop-arm : goal.invariant-loop-arm
invariant-loop-arm l = is_left (choices_of (drop l.arm-index l.arm-items)) ≡ is_left l.arms
