-- Each kind of frame goes on with what has come.
use Rattle.py_walks.proofs.WalkGoes.{frame_as}
use Rattle.py_walks.proofs.walk_goes.walk_left.Goals as goal

pub returns-in-Bound-clause-moves : goal.returns-in-Bound-clause-moves
returns-in-Bound-clause-moves c = frame_as _ _ _ _ _ _ _ _ _ c.in-Bound.is c.bound_left.ensures.moves

pub returns-in-Unpacking-clause-moves : goal.returns-in-Unpacking-clause-moves
returns-in-Unpacking-clause-moves c = frame_as _ _ _ _ _ _ _ _ _ c.in-Unpacking.is c.unpacking_left.ensures.moves
