use Rattle.std.proofs.Common.{arith, refl, ◌≤◌, ◌+◌}
use Rattle.amh_bits.proofs.Joins.{joined_bits, joined_below}
use Rattle.amh_bits.proofs.bits.Bits.concat.Goals as goal

pub invariant_of-result : goal.invariant_of-result
invariant_of-result c =
    let low = c.low.inside in
    let high = c.high.inside in
    let narrow : low.width + high.width ≤ 128 = omega arith in
    (narrow, rw (joined_bits low.bits high.bits low.width high.width c.low.invariant.1 c.high.invariant.1 narrow) (joined_below low.bits high.bits low.width high.width c.low.invariant.1 c.high.invariant.1))

pub returns : goal.returns
returns c =
    let low = c.low.inside in
    let high = c.high.inside in
    let narrow : low.width + high.width ≤ 128 = omega arith in
    rw (← c.low.view_is, ← c.high.view_is, joined_bits low.bits high.bits low.width high.width c.low.invariant.1 c.high.invariant.1 narrow) (narrow, refl)
