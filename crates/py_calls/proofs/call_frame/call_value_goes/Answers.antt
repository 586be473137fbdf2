use Rattle.py_frames.proofs.CallGoes.{value_as}
use Rattle.py_calls.proofs.call_frame.call_value_goes.Goals as goal

pub returns-in-Argument-clause-moves : goal.returns-in-Argument-clause-moves
returns-in-Argument-clause-moves c = value_as _ _ _ _ _ _ _ _ _ c.in-Argument.is c.argument_came.ensures.moves

pub returns-in-Spread-clause-moves : goal.returns-in-Spread-clause-moves
returns-in-Spread-clause-moves c = value_as _ _ _ _ _ _ _ _ _ c.in-Spread.is c.elements_came.ensures.moves
