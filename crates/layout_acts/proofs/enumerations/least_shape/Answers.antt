use Rattle.std.proofs.Common.{arith}
use Rattle.layout_acts.specs.Enumerations.{numbers_of}
use Rattle.layout_acts.proofs.EnumerationLaws.{wide_enough}
use Rattle.layout_acts.proofs.enumerations.least_shape.Goals as goal

pub invariant_of-result : goal.invariant_of-result
invariant_of-result c =
    wide_enough (numbers_of c.args.members.now) c.width_for_all-width.result c.is_any_negative-signed.result c.width_for_all-width.ensures.value c.is_any_negative-signed.ensures (omega arith)
