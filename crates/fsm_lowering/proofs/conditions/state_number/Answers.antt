use Rattle.std.proofs.Common.{arith, ◌+◌}
use Rattle.fsm_lowering.proofs.Widths.{range_width-few}
use Rattle.fsm_lowering.proofs.conditions.state_number.Goals as goal

pub invariant_of-result : goal.invariant_of-result
invariant_of-result c = omega (arith, c.range_width.ensures, range_width-few (c.args.number + 1))
