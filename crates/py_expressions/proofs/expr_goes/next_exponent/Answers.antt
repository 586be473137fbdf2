use Rattle.py_tree.specs.Seen.{tree}
use Rattle.py_frames.proofs.BeginLaws.{stop_goes}
use Rattle.py_frames.proofs.ExprGoes.{exponent_next, exponent_none}
use Rattle.py_expressions.proofs.expr_goes.next_exponent.Goals as goal

pub returns-in-Past-clause-moves : goal.returns-in-Past-clause-moves
returns-in-Past-clause-moves c = rw c.stopped.ensures (exponent_none _ _ _ _ _ _ (tree c.args.node.now) c.args.left c.place_of-place.result c.in-Past.ensures c.place_of-place.ensures (stop_goes _ _ _ _ _ _))

pub returns-in-Part-clause-moves : goal.returns-in-Part-clause-moves
returns-in-Part-clause-moves c = exponent_next _ _ _ _ _ _ (tree c.args.node.now) c.args.left c.place_of-place.result (tree c.in-Part.exponent) c.in-Part.ensures c.place_of-place.ensures c.wait_for.ensures.moves
