use Rattle.py_tree.specs.Seen.{tree}
use Rattle.py_frames.proofs.ExprKinds.{unary_begins}
use Rattle.py_expressions.proofs.expr_operands.begun_unary.Goals as goal

pub returns-clause-moves : goal.returns-clause-moves
returns-clause-moves c = unary_begins _ _ _ _ _ _ c.args.e.now.place c.args.sign (tree c.args.operand.now) (tree c.args.e.now) c.prefix_of.result c.requires c.prefix_of.ensures c.wait_for.ensures.moves
