use Rattle.std.proofs.Common.{arith}
use Rattle.py_values.proofs.PowerLaws.{far_up}
use Rattle.py_values.proofs.powers.shifted_up.Goals as goal

pub returns-then-b-ge128 : goal.returns-then-b-ge128
returns-then-b-ge128 c = far_up _ _ _ _ _ _ (omega (arith, c.if-a-eq0.false)) c.a.view_is c.if-b.false c.b.view_is c.if-b-ge128.true
