use Rattle.std.proofs.Common.{◌≡◌, ◌++◌, drop}
use Rattle.play_text.specs.Lanes.{lanes_at}
use Rattle.play_text.proofs.trace_columns.lanes_of.Given as goal

abbrev pub invariant-loop-x : goal.invariant-loop-x
invariant-loop-x l = l.lanes.items ++ lanes_at (drop l.x-index l.columns) l.first ≡ lanes_at l.columns l.first
