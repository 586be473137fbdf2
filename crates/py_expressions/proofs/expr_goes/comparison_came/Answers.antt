use Rattle.py_expressions.proofs.ExprChains.{decided_as}
use Rattle.py_expressions.proofs.expr_goes.comparison_came.Goals as goal

pub returns-in-Ok-clause-moves : goal.returns-in-Ok-clause-moves
returns-in-Ok-clause-moves c = decided_as _ _ _ _ _ _ c.args.n c.in-Ok.next _ _ _ _ c.in-Ok.ensures c.decided.ensures.moves
