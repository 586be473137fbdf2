use Rattle.std.proofs.Common.{◌≡◌, ◌≤◌, List}
use Rattle.play_text.specs.Trace.{Row}
use Rattle.bench_run.specs.declared.run.Stage.TheVariants as stage
use Rattle.bench_run.specs.Runs.{Run, Point}
use Rattle.bench_run.specs.Standing.{IsAt, IsSafe, StandsFor, to_go, units_of}
use Rattle.bench_run.proofs.run.Run.next_event.Given as goal

-- the run stands for the same rows, its simulator has not moved, and no event took a unit
abbrev pub invariant-loop-event : goal.invariant-loop-event
invariant-loop-event g l = record {
  same : l.self.setting ≡ l.fn.self.setting;
  stage : l.self.stage ≡ stage.Goes;
  safe : IsSafe l.self.setting l.self.point;
  comes : (x : Run) (first : Point) (rows : List Row) → StandsFor l.fn.self x first rows → IsAt l.self.setting l.self.point x first rows;
  sim : l.self.point.sim ≡ l.fn.self.point.sim;
  costs : units_of l.self.point ≡ units_of l.fn.self.point;
  counted : l.fn.steps ≤ l.steps;
}

-- answers that are left, and whether the round is over
abbrev pub decreases-loop-event : goal.decreases-loop-event
decreases-loop-event g l = to_go l.self.point
