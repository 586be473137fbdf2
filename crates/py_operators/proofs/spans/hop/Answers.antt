use Rattle.std.proofs.Common.{◌*◌, ◌<◌, ◌^◌, arith}
use Rattle.py_operators.proofs.StepLaws.{moved_hops, far_hops, some_is, none_is}
use Rattle.py_operators.proofs.spans.hop.Goals as goal

pub returns-in-Some : goal.returns-in-Some
returns-in-Some c =
    moved_hops c.args.n c.args.step c.step.inside.negative c.step.inside.size c.in-Some.way c.args.count c.moved.result c.step.view_is (some_is _ c.checked_mul.result c.in-Some.way (c.args.count * c.step.inside.size) c.in-Some.is c.checked_mul.ensures) c.moved.ensures

pub returns-in-None : goal.returns-in-None
returns-in-None c =
    let n : c.args.count * c.step.inside.size < 2 ^ 128 → ⊥ = none_is _ c.checked_mul.result (c.args.count * c.step.inside.size) c.in-None.is c.checked_mul.ensures in
    far_hops c.args.n c.args.step c.step.inside.negative c.step.inside.size c.args.count c.step.invariant c.step.view_is (omega (arith, n))
