use Rattle.py_tree.specs.Seen.{tree}
use Rattle.py_frames.specs.Parts.{place_of}
use Rattle.py_frames.specs.Expr_frames.{links_of}
use Rattle.py_expressions.proofs.ExprChains.{comparing_none}
use Rattle.py_expressions.proofs.expr_chain.comparing.Goals as goal

pub returns-in-Past-clause-moves : goal.returns-in-Past-clause-moves
returns-in-Past-clause-moves c = comparing_none c.args.functions.now c.args.frozen.now c.args.going.now c.args.budget c.args.n c.args.left c.args.right (place_of (tree c.args.node)) (links_of (tree c.args.node)) c.in-Past.ensures
