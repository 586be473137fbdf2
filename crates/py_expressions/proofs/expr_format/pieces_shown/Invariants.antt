use Rattle.std.proofs.Common.{◌<◌, ◌≤◌, [], drop, Result}
use Rattle.py_frames.specs.declared.state.Halt.{Halt}
use Rattle.py_frames.specs.declared.frame.Now.{Now}
use Rattle.py_frames.specs.declared.going.Going.{Going}
use Rattle.py_frames.specs.Expressions.{pieces_shown}
use Rattle.py_frames.specs.Frames.{GoesOn}
use Rattle.py_expressions.proofs.expr_format.pieces_shown.Given as goal

abbrev pub invariant-loop-piece : goal.invariant-loop-piece
invariant-loop-piece l = record {
  shown : (r : Result Now Halt) (y : Going) → l.going.state.used ≤ y.state.used → GoesOn l.functions l.frozen r l.going y l.budget (λ k. pieces_shown k l.done (drop l.piece-index l.pieces) l.place) → GoesOn l.functions l.frozen r l.fn.going y l.budget (λ k. pieces_shown k [] l.pieces l.place);
  left : l.going.state.used < l.budget;
  grows : l.fn.going.state.used ≤ l.going.state.used;
}
