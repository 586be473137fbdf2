use Rattle.std.proofs.Common.{◌≡◌, ◌<◌, ◌≤◌, ◌-◌, drop, length, Result}
use Rattle.py_frames.specs.declared.state.Halt.{Halt}
use Rattle.py_frames.specs.declared.frame.Now.{Now}
use Rattle.py_frames.specs.declared.going.Going.{Going}
use Rattle.py_frames.specs.Values.{summed}
use Rattle.py_frames.specs.Frames.{GoesOn}
use Rattle.py_callables.proofs.call_sum.summed.Given as goal

abbrev pub invariant-loop-at : goal.invariant-loop-at
invariant-loop-at l = record {
  goes : (r : Result Now Halt) (y : Going) → l.going.state.used ≤ y.state.used → GoesOn l.functions l.frozen r l.going y l.budget (λ k. summed k l.sum (drop l.at l.fn.row) l.place) → GoesOn l.functions l.frozen r l.fn.going y l.budget (λ k. summed k l.fn.total (drop l.fn.next l.fn.row) l.place);
  row : l.row ≡ l.fn.row;
  left : l.going.state.used < l.budget;
  grows : l.fn.going.state.used ≤ l.going.state.used;
}

abbrev pub decreases-loop-at : goal.decreases-loop-at
decreases-loop-at l = length l.row - l.at
