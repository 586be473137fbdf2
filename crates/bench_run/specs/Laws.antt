-- What is proved of runs.
-- Source: those of Runs.
use Rattle.std.specs.Prelude.{◌≡◌, List}
use Rattle.play_text.specs.Trace.{Row}
use Rattle.bench_run.specs.Runs.{Run, Point, End, IsRun}

-- a run has one list of rows, and one end
abbrev pub OneRun : Type 0
OneRun = (x : Run) (first : Point) (rows others : List Row) (end other : End) → IsRun x first rows end → IsRun x first others other → (rows ≡ others) × (end ≡ other)
