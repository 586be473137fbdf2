-- What is written of a run, row by row.
-- Internal: no rule of the language.
use Rattle.std.specs.Prelude.{◌≡◌, ◌⊎◌, ◌∷◌, ℕ, List, length, ℤ}
use Rattle.std.specs.List.{AllByRecursion}
use Rattle.amh_host.specs.Seen.{Seen, with_file, written}
use Rattle.amh_host.specs.Calls.{AddsFront}
use Rattle.amh_host.specs.Written.{WritesFront}
use Rattle.netlist_laws.specs.Histories.{IsHistory}
use Rattle.bench_run.specs.Runs.{End as RunsEnd, RunsAs}
use Rattle.play_text.specs.declared.board.Shown.{Shown}
use Rattle.play_text.specs.Boards.{board_of}
use Rattle.play_text.specs.Lanes.{lanes_at}
use Rattle.play_text.specs.Stripes.{AreFound, grid, joined}
use Rattle.play_text.specs.Trace.{Row, events_in, row_lines, front_text}
use Rattle.amh_tool.specs.Designs.{Given, circuit_of}
use Rattle.amh_tool.specs.Outcome.{end_told, end_of}
use Rattle.amh_tool.specs.Headline.{IsTrace}
use Rattle.amh_tool.specs.Work.{IsRunFront}
use Rattle.amh_tool.specs.declared.run_rows.Ending.{Ending}
use Rattle.amh_tool.specs.declared.row_text.RowText.{RowText}

-- the columns have the numbers of this environment, and it is known where each signal is shown
pub record Shows (columns : List Shown) (env : List ℤ) (t : RowText) : Type 0 where
  pub before : t.before.items ≡ env
  pub lanes : joined (grid t.stripes.stripes.items) ≡ lanes_at columns env
  pub found : AreFound t.stripes.shown.items 0 (grid t.stripes.stripes.items)
  pub count : length t.stripes.shown.items ≡ length env

-- the lines of these rows were added, behind the line of the first environment
pub record RowsAdded (g : Given) (name : List ℕ) (first : List ℤ) (rows : List Row) (old new : Seen) : Type 0 where
  pub envs : List (List ℤ)
  pub is_history : IsHistory (circuit_of g) (events_in rows) (first ∷ envs)
  pub added : new ≡ written name (row_lines (board_of (circuit_of g)) rows first envs) old

-- the rows of the whole run, and how it ended
pub record RunEnds (g : Given) (name : List ℕ) (first : List ℤ) (e : Ending) (old new : Seen) : Type 0 where
  pub rows : List Row
  pub end : RunsEnd
  pub runs : RunsAs g.program g.found g.left rows end
  pub events : e.events ≡ length rows
  pub ends : end_of end ≡ end_told e.stop
  pub added : RowsAdded g name first rows old new

-- a front of the lines of rows that the run has first
pub record RowsAddedFront (g : Given) (name : List ℕ) (first : List ℤ) (old new : Seen) : Type 0 where
  pub rows : List Row
  pub is_front : IsRunFront g rows
  pub envs : List (List ℤ)
  pub is_history : IsHistory (circuit_of g) (events_in rows) (first ∷ envs)
  pub part : AddsFront (written name) (row_lines (board_of (circuit_of g)) rows first envs) old new

-- ---- the file

-- the file has the trace of the whole run
pub record RunWritten (g : Given) (name : List ℕ) (e : Ending) (old new : Seen) : Type 0 where
  pub rows : List Row
  pub end : RunsEnd
  pub runs : RunsAs g.program g.found g.left rows end
  pub events : e.events ≡ length rows
  pub ends : end_of end ≡ end_told e.stop
  pub text : List ℕ
  pub is_trace : IsTrace text (circuit_of g) rows (end_of end)
  pub whole : new ≡ with_file name text old

-- it has a front of the trace as far as these rows, or is as before
pub record RowsFront (g : Given) (name : List ℕ) (old new : Seen) : Type 0 where
  pub rows : List Row
  pub is_front : IsRunFront g rows
  pub envs : List (List ℤ)
  pub is_history : IsHistory (circuit_of g) (events_in rows) envs
  pub part : WritesFront name (front_text (board_of (circuit_of g)) rows envs) old new

-- it has a front of the trace of the whole run
pub record TraceFront (g : Given) (name : List ℕ) (old new : Seen) : Type 0 where
  pub rows : List Row
  pub end : RunsEnd
  pub runs : RunsAs g.program g.found g.left rows end
  pub text : List ℕ
  pub is_trace : IsTrace text (circuit_of g) rows (end_of end)
  pub part : WritesFront name text old new

abbrev pub RunPart : Given → List ℕ → Seen → Seen → Type 0
RunPart g name old new = RowsFront g name old new ⊎ TraceFront g name old new
