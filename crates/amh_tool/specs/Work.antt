-- What the parts of a run do, whatever the host tells.
-- Internal: no rule of the language.
use Rattle.std.specs.Prelude.{◌≡◌, ◌⊎◌, ℕ, List, length, Option, Some, IfSome, MatchOption, ℤ}
use Rattle.amh_host.specs.Seen.{Files, Seen, with_file, with_said, with_warned}
use Rattle.amh_host.specs.Calls.{AddsFront}
use Rattle.amh_host.specs.Written.{WritesFront}
use Rattle.design_ir.specs.Circuits.{Circuit}
use Rattle.netlist_laws.specs.Histories.{IsHistory}
use Rattle.bench_run.specs.Runs.{Point, Follows as RowsFollow, run_of, first_point}
use Rattle.play_text.specs.Boards.{board_of}
use Rattle.play_text.specs.Trace.{Row, End, Done, events_in, front_text}
use Rattle.amh_tool.specs.Plan.{Plan}
use Rattle.amh_tool.specs.Designs.{Given, circuit_of}
use Rattle.amh_tool.specs.Outcome.{Rejection, Unread, Outcome, Rejects, Accepts, Verdict, Rejected, Takes, Plays, Runs, IsPlanned, IsRunTo, ComesOf, status_of, done_text, end_warned, rejection_warned, usage_text, fault_text}
use Rattle.amh_tool.specs.Headline.{StandsFor, IsTrace}
use Rattle.amh_tool.specs.declared.running.Status.{Status}
use Rattle.amh_tool.specs.declared.running.Status.TheVariants.{Usage}

-- the two texts that an accepted design is owed
pub record Owed (c : Circuit) (rows : List Row) (end : End) : Type 0 where
  pub il : List ℕ
  pub trace : List ℕ
  pub stands : StandsFor il c
  pub is_trace : IsTrace trace c rows end

-- what the host has once both files are whole
abbrev pub with_files : Plan → List ℕ → List ℕ → Seen → Seen
with_files p il trace s = with_file p.trace trace (with_file p.il il s)

-- A text is said where all came to pass, and else warned; the one that is said has the numbers of columns and events.
abbrev pub closed : Plan → ℕ → ℕ → End → Seen → Seen
closed p columns events Done s = with_said (done_text columns events) s
closed p columns events end s = with_warned (end_warned p end) s

-- a front of it
abbrev pub ClosedFront : Plan → ℕ → ℕ → End → Seen → Seen → Type 0
ClosedFront p columns events Done old new = AddsFront with_said (done_text columns events) old new
ClosedFront p columns events end old new = AddsFront with_warned (end_warned p end) old new

abbrev pub with_closing : Plan → Circuit → List Row → End → Seen → Seen
with_closing p c rows end s = closed p (length c.columns) (length rows) end s

abbrev pub ClosesFront : Plan → Circuit → List Row → End → Seen → Seen → Type 0
ClosesFront p c rows end old new = ClosedFront p (length c.columns) (length rows) end old new

-- nothing but a text is warned
abbrev pub CarriesRejection : Plan → Rejection → Seen → Seen → Type 0
CarriesRejection p Unread old new = ⊥
CarriesRejection p r old new = new ≡ with_warned (rejection_warned p r) old

-- the host has all that the outcome asks for, and nothing else is changed
abbrev pub Carries : Plan → Outcome → Seen → Seen → Type 0
Carries p (Rejects r) old new = CarriesRejection p r old new
Carries p (Accepts c rows end) old new = (owed : Owed c rows end) × (new ≡ with_closing p c rows end (with_files p owed.il owed.trace old))

-- an outcome is carried out, and this is the answer
abbrev pub Performs : Plan → Outcome → Status → Seen → Seen → Type 0
Performs p o answer old new = (status_of o ≡ Some answer) × Carries p o old new

-- so is what a run comes to
pub record PerformsRun (p : Plan) (g : Given) (answer : Status) (old new : Seen) : Type 0 where
  pub found : Outcome
  pub comes : IsRunTo g found
  pub performs : Performs p found answer old new

-- the host has all of RTLIL
pub record WritesRtlil (p : Plan) (c : Circuit) (old new : Seen) : Type 0 where
  pub il : List ℕ
  pub stands : StandsFor il c
  pub whole : new ≡ with_file p.il il old

-- the host has a front of RTLIL
pub record WritesRtlilPart (p : Plan) (c : Circuit) (old new : Seen) : Type 0 where
  pub il : List ℕ
  pub stands : StandsFor il c
  pub part : WritesFront p.il il old new

-- the host has all of RTLIL and a front of the trace, or both and a front of the closing text
pub record WritesTracePart (p : Plan) (c : Circuit) (rows : List Row) (end : End) (old new : Seen) : Type 0 where
  pub owed : Owed c rows end
  pub part : WritesFront p.trace owed.trace (with_file p.il owed.il old) new ⊎ ClosesFront p c rows end (with_files p owed.il owed.trace old) new

-- a front of what is warned
abbrev pub RejectionPart : Plan → Rejection → Seen → Seen → Type 0
RejectionPart p Unread old new = new ≡ old
RejectionPart p r old new = AddsFront with_warned (rejection_warned p r) old new

-- the host has a part of what is accepted, in its order
abbrev pub AcceptedPart : Plan → Circuit → List Row → End → Seen → Seen → Type 0
AcceptedPart p c rows end old new = (new ≡ old) ⊎ WritesRtlilPart p c old new ⊎ WritesTracePart p c rows end old new

abbrev pub CarriesPart : Plan → Outcome → Seen → Seen → Type 0
CarriesPart p (Rejects r) old new = RejectionPart p r old new
CarriesPart p (Accepts c rows end) old new = AcceptedPart p c rows end old new

-- ---- a run of which no more is known than its rows so far

-- the run has these rows first
pub record IsRunFront (g : Given) (rows : List Row) : Type 0 where
  pub point : Point
  pub follows : RowsFollow (run_of g.program g.found) (first_point g.found g.left) rows point

-- the host has all of RTLIL, and a front of the trace as far as these rows
pub record WritesRowsPart (p : Plan) (g : Given) (old new : Seen) : Type 0 where
  pub il : List ℕ
  pub stands : StandsFor il (circuit_of g)
  pub rows : List Row
  pub is_front : IsRunFront g rows
  pub envs : List (List ℤ)
  pub is_history : IsHistory (circuit_of g) (events_in rows) envs
  pub part : WritesFront p.trace (front_text (board_of (circuit_of g)) rows envs) (with_file p.il il old) new

-- the host has a part of what a run comes to: a front of its rows, or where its end is known a part of what that asks for
abbrev pub CarriesRun : Plan → Given → Seen → Seen → Type 0
CarriesRun p g old new = (new ≡ old) ⊎ WritesRtlilPart p (circuit_of g) old new ⊎ WritesRowsPart p g old new ⊎ ((o : Outcome) × IsRunTo g o × CarriesPart p o old new)

-- a part of what a verdict asks for
abbrev pub VerdictPart : Plan → Verdict → Seen → Seen → Type 0
VerdictPart p (Rejected r) old new = RejectionPart p r old new
VerdictPart p (Takes g (Plays rows end)) old new = AcceptedPart p (circuit_of g) rows end old new
VerdictPart p (Takes g Runs) old new = CarriesRun p g old new

-- ---- what was done of a plan

-- this is what the plan leads to, where the host tells its files
abbrev pub IsFor : Plan → Verdict → Option Files → Type 0
IsFor p v told = IfSome told (λ files. IsPlanned p files v)

pub record WorksFor (p : Plan) (answer : Status) (old new : Seen) : Type 0 where
  pub verdict : Verdict
  pub is_for : IsFor p verdict old.files
  pub found : Outcome
  pub comes : ComesOf verdict found
  pub status : status_of found ≡ Some answer
  pub carries : Carries p found old new

pub record WorksUsage (answer : Status) (old new : Seen) : Type 0 where
  pub usage : answer ≡ Usage
  pub warned : new ≡ with_warned usage_text old

-- what was asked for was done
abbrev pub Works : Option Plan → Status → Seen → Seen → Type 0
Works plan answer old new = MatchOption plan (WorksUsage answer old new) (λ p. WorksFor p answer old new)

-- nothing was changed, or a part of what the plan leads to was carried out
abbrev pub FailsFor : Plan → Seen → Seen → Type 0
FailsFor p old new = (v : Verdict) × IsFor p v old.files × VerdictPart p v old new

abbrev pub Fails : Option Plan → Seen → Seen → Type 0
Fails plan old new = (new ≡ old) ⊎ MatchOption plan (AddsFront with_warned usage_text old new) (λ p. FailsFor p old new)

-- a part of it, and then a front of the text that tells of the fault
pub record FaultsAfter (plan : Option Plan) (old new : Seen) : Type 0 where
  pub between : Seen
  pub fails : Fails plan old between
  pub told : AddsFront with_warned fault_text between new
