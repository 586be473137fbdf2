use Rattle.py_operators.proofs.SumLaws.{repeated_empty, repeated_below}
use Rattle.py_operators.proofs.sums.repeated.Goals as goal

pub returns-then-row-eq0 : goal.returns-then-row-eq0
returns-then-row-eq0 c = repeated_empty _ _ _ _ c.in-Some.is c.if-row-eq0.true c.new.ensures

pub returns-then-n : goal.returns-then-n
returns-then-n c = repeated_below _ _ _ _ _ _ c.in-Some.is c.if-n.true c.n.invariant c.n.view_is c.new-then-n.ensures
