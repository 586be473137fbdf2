use Rattle.py_tree.specs.Seen.{tree}
use Rattle.py_frames.specs.Parts.{place_of}
use Rattle.py_frames.specs.Expr_frames.{links_of}
use Rattle.py_expressions.proofs.ExprChains.{link_before, link_last, link_none}
use Rattle.py_expressions.proofs.expr_chain.next_link.Goals as goal

pub returns-in-Past-clause-moves : goal.returns-in-Past-clause-moves
returns-in-Past-clause-moves c = link_none c.args.functions.now c.args.frozen.now c.args.going.now c.args.budget c.args.n c.args.left (place_of (tree c.args.node)) (links_of (tree c.args.node)) c.in-Past.ensures

pub returns-in-Past-link_at-clause-moves : goal.returns-in-Past-link_at-clause-moves
returns-in-Past-link_at-clause-moves c = link_last c.args.functions.now c.args.frozen.now c.right_operand.result c.args.going.now c.right_operand.new.going c.args.budget c.args.n c.in-Ok.at c.args.left c.place_of-place.result c.args.node c.in-Part.link.operator (tree c.in-Part.link.operand) c.operator_of-op.result c.in-Ok.ensures c.in-Part.ensures c.in-Past-link_at.ensures c.place_of-place.ensures c.operator_of-op.ensures c.right_operand.ensures.moves

pub returns-in-Part-link_at-clause-moves : goal.returns-in-Part-link_at-clause-moves
returns-in-Part-link_at-clause-moves c = link_before c.args.functions.now c.args.frozen.now c.right_before.result c.args.going.now c.right_before.new.going c.args.budget c.args.n c.in-Ok.at c.args.left c.place_of-place.result c.args.node c.in-Part.link.operator (tree c.in-Part.link.operand) c.operator_of-op.result c.in-Ok.ensures c.in-Part.ensures c.place_of-place.ensures c.operator_of-op.ensures c.right_before.ensures.moves
