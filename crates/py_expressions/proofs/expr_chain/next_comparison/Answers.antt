use Rattle.py_tree.specs.Seen.{tree}
use Rattle.py_frames.specs.Parts.{place_of}
use Rattle.py_frames.specs.Expr_frames.{links_of}
use Rattle.py_expressions.proofs.ExprChains.{compare_next, compare_none}
use Rattle.py_expressions.proofs.expr_chain.next_comparison.Goals as goal

pub returns-in-Past-clause-moves : goal.returns-in-Past-clause-moves
returns-in-Past-clause-moves c = compare_none c.args.functions.now c.args.frozen.now c.args.going.now c.args.budget c.args.n c.args.left (place_of (tree c.args.node)) (links_of (tree c.args.node)) c.in-Past.ensures

pub returns-in-Part-clause-moves : goal.returns-in-Part-clause-moves
returns-in-Part-clause-moves c = compare_next c.args.functions.now c.args.frozen.now c.wait_for.result c.args.going.now c.wait_for.new.going c.args.budget c.args.n c.args.left c.args.node c.in-Part.link.operator (tree c.in-Part.link.operand) c.in-Part.ensures c.wait_for.ensures.moves
