use Rattle.std.proofs.Common.{◌≤◌, ◌<◌, length, ◌-◌}
use Rattle.flat_design.proofs.SourceLists.{AreAbove}
use Rattle.flat_design.proofs.sources.run_length.Given as goal

abbrev pub invariant-loop-n : goal.invariant-loop-n
invariant-loop-n l = record { some : 0 < l.n; within : l.n ≤ length l.sources; above : AreAbove l.first l.n l.sources }

abbrev pub decreases-loop-n : goal.decreases-loop-n
decreases-loop-n l = length l.sources - l.n
