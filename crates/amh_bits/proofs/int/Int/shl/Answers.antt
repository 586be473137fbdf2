use Rattle.std.proofs.Common.{arith}
use Rattle.amh_bits.proofs.Shifts.{shifted_out, far_out, high_out}
use Rattle.amh_bits.proofs.int.Int.shl.Goals as goal

pub returns-then-by-ge128 : goal.returns-then-by-ge128
returns-then-by-ge128 c =
    rw (← c.self.view_is) (shifted_out c.self.inside.negative c.self.inside.size c.args.by (far_out _ _ (omega arith) c.if-by-ge128.true))

pub returns-then-self-by : goal.returns-then-self-by
returns-then-self-by c =
    rw (← c.self.view_is) (shifted_out c.self.inside.negative c.self.inside.size c.args.by (high_out _ _ c.if-self-by.true))
