use Rattle.py_expressions.proofs.ExprChains.{pairs_as}
use Rattle.py_expressions.proofs.expr_goes.pair_came.Goals as goal

pub returns-in-Ok-clause-moves : goal.returns-in-Ok-clause-moves
returns-in-Ok-clause-moves c = pairs_as _ _ _ _ _ _ c.args.n c.in-Ok.next _ _ _ c.in-Ok.ensures c.next_pair.ensures.moves
