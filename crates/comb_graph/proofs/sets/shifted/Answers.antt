use Rattle.std.proofs.Common.{◌*◌, ◌≤◌, arith}
use Rattle.std.proofs.Math.Nat.{mul-le-mul_left}
use Rattle.comb_graph.proofs.SetLaws.{far_along}
use Rattle.comb_graph.proofs.sets.shifted.Goals as goal

pub returns-then-number-ge128 : goal.returns-then-number-ge128
returns-then-number-ge128 c =
    let some : 1 ≤ c.args.stride = omega arith in
    let long : 128 ≤ c.args.number * c.args.stride = omega (arith, mul-le-mul_left c.args.number some) in
    λ k. far_along c.args.set c.args.number c.args.stride k c.ranges.set.fits long

pub returns-then-by-ge128 : goal.returns-then-by-ge128
returns-then-by-ge128 c = λ k. far_along c.args.set c.args.number c.args.stride k c.ranges.set.fits c.if-by-ge128.true
