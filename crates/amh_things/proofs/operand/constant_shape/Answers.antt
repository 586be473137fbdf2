use Rattle.std.proofs.Common.{◌-◌, arith}
use Rattle.amh_bits.specs.Integers.{IsSignAndSize}
use Rattle.amh_things.proofs.Constants.{bit_length-fits}
use Rattle.amh_things.proofs.operand.constant_shape.Goals as goal

pub invariant_of-t-3 : goal.invariant_of-t-3
invariant_of-t-3 c =
    let size : IsSignAndSize c.n.inside.negative c.n.inside.size = c.n.invariant in
    let kept = rw c.if-n.true at size in
    let fits = bit_length-fits 127 (c.n.inside.size - 1) (omega (arith, kept.0, kept.1)) (omega arith) in
    (omega arith, omega (arith, fits.1, c.bit_length.ensures.least))
