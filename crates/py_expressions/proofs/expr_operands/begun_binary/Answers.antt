use Rattle.std.proofs.Common.{map}
use Rattle.py_tree.specs.Seen.{tree, link_tree}
use Rattle.py_tree.specs.Tree.{links}
use Rattle.py_frames.proofs.ExprKinds.{binary_begins}
use Rattle.py_expressions.proofs.expr_operands.begun_binary.Goals as goal

pub returns-clause-moves : goal.returns-clause-moves
returns-clause-moves c = binary_begins _ _ _ _ _ _ c.args.e.now.place (tree c.args.first.now) (links (map link_tree c.args._links.now)) (tree c.args.e.now) c.in-Ok.node c.requires.kind c.in-Ok.ensures c.first_operand.ensures.moves
