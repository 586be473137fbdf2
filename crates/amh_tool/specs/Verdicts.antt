-- The outcome that the program found.
-- Internal: no rule of the language.
use Rattle.std.specs.Prelude.{◌≡◌, ◌<◌, ◌≤◌, ◌^◌, ℕ, nat_lt, if◌then◌else◌, List, [], take, length, Option, Result, Ok, Err}
use Rattle.amh_host.specs.Seen.{Files}
use Rattle.design_ir.specs.declared.event.Event.{Event}
use Rattle.design_ir.specs.Legal.{AllLegal}
use Rattle.comb_graph.specs.Rankings.{IsRanking}
use Rattle.elab_eval.specs.Fit.{FitsDesign}
use Rattle.bench_run.specs.declared.run.Stage.TheVariants as stage
use Rattle.bench_run.specs.Runs.{run_of, first_point}
use Rattle.bench_run.specs.Standing.{StandsFor, CanGoOn, units_of}
use Rattle.design_ir.specs.Circuits.{Circuit}
use Rattle.play_text.specs.Boards.{board_of}
use Rattle.play_text.specs.Script.{script_events}
use Rattle.play_text.specs.ScriptGives.{ReadsScript}
use Rattle.play_text.specs.Trace.{Row, End, Done, Spends, timed}
use Rattle.amh_tool.specs.Plan.{Plan}
use Rattle.amh_tool.specs.Designs.{Given, circuit_of}
use Rattle.amh_tool.specs.DesignGives.{given_seen}
use Rattle.amh_tool.specs.Outcome.{Rejection, Refuses, Spends as BudgetSpent, BadLine, Outcome, Accepts, Verdict, Rejected, Takes, Plays, Runs}
use Rattle.amh_tool.specs.Work.{IsFor}
use Rattle.amh_tool.specs.declared.design_text.Ranked.{Ranked}
use Rattle.amh_tool.specs.declared.accept.Accepted.{Accepted}
use Rattle.amh_tool.specs.declared.accept.Rejection.{Rejection as CodeRejection}
use Rattle.amh_tool.specs.declared.accept.Rejection.TheVariants as rejection
use Rattle.amh_tool.specs.declared.accept.Script.{Script}
use Rattle.amh_tool.specs.declared.accept.Runs.{Runs as CodeRuns}
use Rattle.amh_tool.specs.declared.accept.Verdict.{Verdict as CodeVerdict}
use Rattle.amh_tool.specs.declared.accept.Verdict.TheVariants as verdict

-- the ranks are the design's, which fits a run, and units are left for it
pub record IsReady (r : Ranked) : Type 0 where
  pub ranking : IsRanking r.design r.ranks
  pub fit : FitsDesign r.design r.rest.store
  pub units : 0 < r.rest.left.left

-- ---- a script

-- the events for which the budget is enough
abbrev pub events_of : Accepted → List Event
events_of a = take a.within a.events

abbrev pub rows_of : Accepted → List Row
rows_of a = timed 1 (events_of a)

-- behind them all came to pass, or the budget is spent
abbrev pub ending_of : Accepted → End
ending_of a = if nat_lt a.within (length a.events) then Spends else Done

abbrev pub accepted_seen : Accepted → Outcome
accepted_seen a = Accepts a.ranked.design (rows_of a) (ending_of a)

-- what is accepted is ready, with its own columns and legal events
pub record IsFitting (a : Accepted) : Type 0 where
  pub ready : IsReady a.ranked
  pub board : a.board ≡ board_of a.ranked.design
  pub within : a.within ≤ length a.events
  pub legal : AllLegal a.ranked.design (events_of a)

-- what was read of a file that is held is what its bytes say, over the design's own columns
abbrev pub IsScript : Option Files → List ℕ → Circuit → Result Script ℕ → Type 0
IsScript told name d (Ok s) = (s.board ≡ board_of d) × ((bytes : List ℕ) × ReadsScript told name bytes × script_events (board_of d) bytes ≡ Ok s.events)
IsScript told name d (Err line) = (bytes : List ℕ) × ReadsScript told name bytes × script_events (board_of d) bytes ≡ Err line

-- ---- a run

-- a run that stands before its first row, with its own columns
pub record IsRunFitting (g : Given) (r : CodeRuns) : Type 0 where
  pub stands : StandsFor r.run (run_of g.program g.found) (first_point g.found g.left) []
  pub going : CanGoOn r.run
  pub before : r.run.stage ≡ stage.Before
  pub few : units_of r.run.point < 2 ^ 64
  pub design : r.run.point.bench.design ≡ circuit_of g
  pub ranking : IsRanking (circuit_of g) r.ranks
  pub board : r.board ≡ board_of (circuit_of g)

-- ---- what was found

abbrev pub rejection_seen : CodeRejection → Rejection
rejection_seen (rejection.Refused r) = Refuses r
rejection_seen (rejection.Spent place) = BudgetSpent place
rejection_seen (rejection.BadLine line) = BadLine line

-- it holds of the verdict that was found, which is ready to be carried out
abbrev pub IsFoundAs : (Verdict → Type 0) → CodeVerdict → Type 0
IsFoundAs P (verdict.Rejected r) = P (Rejected (rejection_seen r))
IsFoundAs P (verdict.Accepted a) = IsFitting a × P (Takes (given_seen a.ranked) (Plays (rows_of a) (ending_of a)))
IsFoundAs P (verdict.Runs r) = (g : Given) × IsRunFitting g r × P (Takes g Runs)

-- what was found is what the plan leads to
abbrev pub IsFound : Plan → Option Files → CodeVerdict → Type 0
IsFound p told v = IsFoundAs (λ x. IsFor p x told) v
