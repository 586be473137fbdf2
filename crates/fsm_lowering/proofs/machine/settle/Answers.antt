use Rattle.std.proofs.Common.{arith, ◌<◌, ◌^◌}
use Rattle.fsm_lowering.proofs.Widths.{range_width-few, range_width-has}
use Rattle.fsm_lowering.specs.States.{range_width}
use Rattle.fsm_lowering.proofs.machine.settle.Goals as goal

pub invariant_of-shape : goal.invariant_of-shape
invariant_of-shape c = omega (arith, c.range_width.ensures, range_width-few c.args.count)

pub settle-requires-clause-init : goal.settle-requires-clause-init
settle-requires-clause-init c =
    let among : c.args.first < 2 ^ range_width c.args.count = omega (arith, range_width-has c.args.count c.requires.few, c.requires.among) in
    rw (c.of_u128.ensures, c.range_width.ensures) among
