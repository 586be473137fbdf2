use Rattle.std.proofs.Common.{◌∙◌}
use Rattle.py_values.proofs.PowerLaws.{far_down}
use Rattle.py_values.proofs.powers.shifted_down.Goals as goal

pub returns-then-b-ge128 : goal.returns-then-b-ge128
returns-then-b-ge128 c = far_down _ _ _ _ _ _ _ c.a.invariant c.a.view_is c.if-b.false c.b.view_is c.if-b-ge128.true (c.of.ensures ∙ c.shr.ensures)
