use Rattle.py_tree.specs.Seen.{tree}
use Rattle.py_frames.specs.Expr_frames.{links_of, operand_place, first_operand}
use Rattle.py_expressions.proofs.ExprChains.{join_none}
use Rattle.py_expressions.proofs.expr_chain.next_joined.Goals as goal

pub returns-in-Past-clause-moves : goal.returns-in-Past-clause-moves
returns-in-Past-clause-moves c = join_none c.args.functions.now c.args.frozen.now c.args.going.now c.args.budget c.args.n c.args.left (operand_place c.args.n (first_operand (tree c.args.node)) (links_of (tree c.args.node))) (links_of (tree c.args.node)) c.in-Past.ensures
