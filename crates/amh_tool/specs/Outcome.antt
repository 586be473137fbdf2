-- What the words and the files ask for.
-- Source: this project's own rule (docs/RULES.md).
use Rattle.std.specs.Prelude.{◌≡◌, ℕ, ◌-◌, nat_lt, if◌then◌else◌, List, [], length, take, Option, None, Some, MatchOption, codes, Result, Ok, Err, unwrap_or}
use Rattle.std.specs.Option.{option_map_or}
use Rattle.std.specs.Fmt.{decimal}
use Rattle.amh_host.specs.Seen.{Files}
use Rattle.amh_host.specs.declared.place.Place.{Place}
use Rattle.amh_host.specs.declared.place.Kind.{Kind}
use Rattle.amh_host.specs.declared.place.Kind.TheVariants.{Text, Subset, Raised, Width, TwoDrivers, DrivenInput, DomainClash, Loop, Limit, Script}
use Rattle.design_ir.specs.declared.event.Event.{Event}
use Rattle.design_ir.specs.Circuits.{Circuit}
use Rattle.amh_tool.specs.declared.refusal.Refusal.{Refusal}
use Rattle.amh_tool.specs.declared.running.Status.{Status}
use Rattle.amh_tool.specs.declared.running.Status.TheVariants.{Done, Refused, AssertFailed, Usage, Spent, Fault, NoMemory}
use Rattle.play_text.specs.Trace.{Row, End, Done as EndDone, Asserts as EndAsserts, Raises as EndRaises, PassesWidth as EndPassesWidth, PassesLimit as EndPassesLimit, Spends as EndSpends, timed, ◌▸◌, line_feed}
use Rattle.py_frames.specs.declared.request.Cause.{Cause}
use Rattle.py_frames.specs.declared.request.Cause.TheVariants as cause
use Rattle.py_frames.specs.declared.request.Stop.{Stop}
use Rattle.bench_run.specs.Runs.{End as RunsEnd, Over, StopsAt, RunsAs}
use Rattle.amh_tool.specs.Plan.{Plan, plan_of}
use Rattle.amh_tool.specs.Designs.{Given, circuit_of, Designed, gives, refuses, spends, refusal, IsDesigned}
use Rattle.play_text.specs.Boards.{board_of}
use Rattle.play_text.specs.Script.{script_events}

-- why nothing is accepted
pub data Rejection : Type 0 where
  -- a file that is to be read is not held
  Unread : Rejection
  BadWords : Rejection
  Refuses : Refusal → Rejection
  -- the budget is spent before the run
  Spends : Place → Rejection
  BadLine : (line : ℕ) → Rejection

pub data Outcome : Type 0 where
  Rejects : Rejection → Outcome
  Accepts : (design : Circuit) (rows : List Row) (end : End) → Outcome

-- ---- before anything is written it is known what is asked of a design, or that nothing is accepted

-- these rows, or the run of the file's simulator
pub data Task : Type 0 where
  Plays : (rows : List Row) (end : End) → Task
  Runs : Task

pub data Verdict : Type 0 where
  Rejected : Rejection → Verdict
  Takes : Given → Task → Verdict

-- each event costs a unit before it takes place, and the unit with which the cost reaches the budget is not carried out
abbrev pub rows_within : ℕ → List Row → List Row
rows_within left rows = take (left - 1) rows

abbrev pub end_within : ℕ → List Row → End
end_within left rows = if nat_lt (length rows) left then EndDone else EndSpends

-- a script's events take place one after another
abbrev pub played : Given → Result (List Event) ℕ → Verdict
played g (Ok events) = let rows = timed 1 events in Takes g (Plays (rows_within g.left rows) (end_within g.left rows))
played g (Err line) = Rejected (BadLine line)

-- what follows from the bytes of a file, where it is held
abbrev pub Follows : Files → List ℕ → (List ℕ → Verdict → Type 0) → Verdict → Type 0
Follows files name from v = MatchOption (files name) (v ≡ Rejected Unread) (λ bytes. from bytes v)

-- The script is read. Without one the file's simulator runs, but where the words name the top there are no events.
abbrev pub IsAsked : (script top : Option (List ℕ)) → Files → Given → Verdict → Type 0
IsAsked (Some name) top files g v = Follows files name (λ script x. x ≡ played g (script_events (board_of (circuit_of g)) script)) v
IsAsked None (Some top) files g v = v ≡ Takes g (Plays [] EndDone)
IsAsked None None files g v = v ≡ Takes g Runs

-- the design is refused, or its budget is spent, or it is asked for something
abbrev pub IsJudged : Plan → Files → Designed → Verdict → Type 0
IsJudged p files (refuses r) v = v ≡ Rejected (Refuses r)
IsJudged p files (spends place) v = v ≡ Rejected (Spends place)
IsJudged p files (gives g) v = IsAsked p.script p.top files g v

-- what a design file leads to
pub record FromDesign (p : Plan) (files : Files) (bytes : List ℕ) (v : Verdict) : Type 0 where
  pub found : Designed
  pub designed : IsDesigned p bytes found
  pub judged : IsJudged p files found v

abbrev pub IsPlanned : Plan → Files → Verdict → Type 0
IsPlanned p files v = Follows files p.design (FromDesign p files) v

-- the verdict of the words; there is one, and no other
abbrev pub IsVerdict : List (List ℕ) → Files → Verdict → Type 0
IsVerdict words files v = MatchOption (plan_of words) (v ≡ Rejected BadWords) (λ p. IsPlanned p files v)

-- ---- what comes of it

abbrev pub end_by : Cause → Place → End
end_by cause.Raised p = EndRaises p
end_by cause.Width p = EndPassesWidth p
end_by cause.Limit p = EndPassesLimit p
end_by cause.Assert p = EndAsserts p
end_by cause.Spent p = EndSpends

-- a run that nothing stopped came to its end
abbrev pub end_told : Option Stop → End
end_told None = EndDone
end_told (Some stop) = end_by stop.cause stop.place

abbrev pub end_of : RunsEnd → End
end_of Over = end_told None
end_of (StopsAt stop) = end_told (Some stop)

-- the run of the file's simulator has these rows, and ends so
pub record IsRunTo (g : Given) (o : Outcome) : Type 0 where
  pub rows : List Row
  pub end : RunsEnd
  pub runs : RunsAs g.program g.found g.left rows end
  pub is : o ≡ Accepts (circuit_of g) rows (end_of end)

abbrev pub ComesOf : Verdict → Outcome → Type 0
ComesOf (Rejected r) o = o ≡ Rejects r
ComesOf (Takes g (Plays rows end)) o = o ≡ Accepts (circuit_of g) rows end
ComesOf (Takes g Runs) o = IsRunTo g o

-- the outcome of the words; there is no other
pub record IsOutcome (words : List (List ℕ)) (files : Files) (o : Outcome) : Type 0 where
  pub verdict : Verdict
  pub is_verdict : IsVerdict words files verdict
  pub comes : ComesOf verdict o

-- ---- the answer

abbrev pub end_status : End → Status
end_status EndDone = Done
end_status (EndAsserts p) = AssertFailed
end_status (EndRaises p) = Refused
end_status (EndPassesWidth p) = Refused
end_status (EndPassesLimit p) = Refused
end_status EndSpends = Spent

-- there is none where a file is missing
abbrev pub rejection_status : Rejection → Option Status
rejection_status Unread = None
rejection_status BadWords = Some Usage
rejection_status (Refuses r) = Some Refused
rejection_status (Spends place) = Some Spent
rejection_status (BadLine line) = Some Refused

abbrev pub status_of : Outcome → Option Status
status_of (Rejects r) = rejection_status r
status_of (Accepts c rows end) = Some (end_status end)

-- ---- the texts

abbrev pub kind_text : Kind → List ℕ
kind_text Text = codes "text"
kind_text Subset = codes "subset"
kind_text Raised = codes "raised"
kind_text Width = codes "width"
kind_text TwoDrivers = codes "two drivers"
kind_text DrivenInput = codes "driven input"
kind_text DomainClash = codes "domain clash"
kind_text Loop = codes "loop"
kind_text Limit = codes "limit"
kind_text Script = codes "script"

unfoldable pub done_text : ℕ → ℕ → List ℕ
done_text columns events = codes "done: " ▸ decimal columns ▸ codes " columns, " ▸ decimal events ▸ codes " events" ▸ line_feed

abbrev pub end_said : Circuit → List Row → End → List ℕ
end_said c rows EndDone = done_text (length c.columns) (length rows)
end_said c rows e = []

abbrev pub said_of : Outcome → List ℕ
said_of (Accepts c rows end) = end_said c rows end
said_of (Rejects r) = []

unfoldable pub fault_text : List ℕ
fault_text = codes "host fault" ▸ line_feed

unfoldable pub usage_text : List ℕ
usage_text = codes "usage: amh_tool DESIGN IL TRACE [--play FILE] [--top NAME] [--budget N] [--make N]" ▸ line_feed

unfoldable pub refusal_text : List ℕ → Refusal → List ℕ
refusal_text name r = name ▸ codes ":" ▸ decimal r.place.line ▸ codes ":" ▸ decimal r.place.col ▸ codes ": " ▸ kind_text r.kind ▸ line_feed

unfoldable pub spent_text : ℕ → List ℕ
spent_text n = codes "budget of " ▸ decimal n ▸ codes " spent" ▸ line_feed

unfoldable pub bad_line_text : List ℕ → ℕ → List ℕ
bad_line_text name line = name ▸ codes ":" ▸ decimal line ▸ codes ": script" ▸ line_feed

unfoldable pub assertion_text : List ℕ → Place → List ℕ
assertion_text name p = name ▸ codes ":" ▸ decimal p.line ▸ codes ":" ▸ decimal p.col ▸ codes ": assertion failed" ▸ line_feed

abbrev pub no_plan : Plan
no_plan = record { design = []; il = []; trace = []; script = None; top = None; budget = 0 }

-- the names, which are empty where the words are bad
abbrev pub names : List (List ℕ) → Plan
names words = option_map_or (λ p. p) (plan_of words) no_plan

abbrev pub end_warned : Plan → End → List ℕ
end_warned p EndDone = []
end_warned p (EndAsserts place) = assertion_text p.design place
end_warned p (EndRaises place) = refusal_text p.design (refusal Raised place)
end_warned p (EndPassesWidth place) = refusal_text p.design (refusal Width place)
end_warned p (EndPassesLimit place) = refusal_text p.design (refusal Limit place)
end_warned p EndSpends = spent_text p.budget

abbrev pub rejection_warned : Plan → Rejection → List ℕ
rejection_warned p Unread = []
rejection_warned p BadWords = usage_text
rejection_warned p (Refuses r) = refusal_text p.design r
rejection_warned p (Spends place) = spent_text p.budget
rejection_warned p (BadLine line) = bad_line_text (unwrap_or p.script []) line

abbrev pub warned_of : Plan → Outcome → List ℕ
warned_of p (Rejects r) = rejection_warned p r
warned_of p (Accepts c rows end) = end_warned p end

-- the exit code of an answer
abbrev pub code_of : Status → ℕ
code_of Done = 0
code_of Refused = 1
code_of AssertFailed = 2
code_of Usage = 3
code_of Spent = 4
code_of Fault = 5
code_of NoMemory = 6
