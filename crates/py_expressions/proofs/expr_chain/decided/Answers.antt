use Rattle.py_tree.specs.Seen.{tree}
use Rattle.py_frames.specs.Parts.{place_of}
use Rattle.py_frames.specs.Expr_frames.{links_of}
use Rattle.py_expressions.proofs.ExprChains.{decide_last}
use Rattle.py_expressions.proofs.expr_chain.decided.Goals as goal

pub returns-in-Past-clause-moves : goal.returns-in-Past-clause-moves
returns-in-Past-clause-moves c = decide_last c.args.functions.now c.args.frozen.now c.args.going.now c.args.budget c.args.n c.args.right c.args.gave (place_of (tree c.args.node)) (links_of (tree c.args.node)) c.in-Past.ensures
