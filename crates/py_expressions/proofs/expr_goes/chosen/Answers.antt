use Rattle.py_tree.specs.Seen.{tree}
use Rattle.py_frames.proofs.BeginLaws.{stop_goes}
use Rattle.py_frames.proofs.ExprGoes.{choice_none, choice_stops, choice_taken}
use Rattle.py_expressions.proofs.expr_goes.chosen.Goals as goal

pub returns-in-Past-clause-moves : goal.returns-in-Past-clause-moves
returns-in-Past-clause-moves c = rw c.stopped.ensures (choice_none _ _ _ _ _ _ (tree c.args.node.now) c.args.test c.place_of.result c.in-Past.ensures c.place_of.ensures (stop_goes _ _ _ _ _ _))

pub returns-in-Err-clause-moves : goal.returns-in-Err-clause-moves
returns-in-Err-clause-moves c = choice_stops _ _ c.in-Err.halt _ _ (tree c.args.node.now) c.args.test (tree c.in-Part.parts.chosen) (tree c.in-Part.parts.other) c.in-Part.parts.test c.in-Part.ensures c.in-Err.ensures

pub returns-in-Ok-clause-moves : goal.returns-in-Ok-clause-moves
returns-in-Ok-clause-moves c = choice_taken _ _ _ _ (tree c.args.node.now) c.args.test (tree c.in-Part.parts.chosen) (tree c.in-Part.parts.other) c.in-Part.parts.test c.in-Ok.holds c.part.result c.in-Part.ensures c.in-Ok.ensures c.part.ensures
