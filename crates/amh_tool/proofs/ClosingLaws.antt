-- From the two files and the closing text to what an outcome is owed.
use Rattle.std.proofs.Common.{◌≡◌, ◌∙◌, ◌⊎◌, ℕ, List, length, refl, ap, sym, subst, inl, inr}
use Rattle.std.specs.Prelude.{Result, Ok, Err, Some, IfOk, OnErr, OnOk}
use Rattle.amh_host.specs.Seen.{Seen, with_file, with_warned}
use Rattle.amh_host.specs.Calls.{AddsFront}
use Rattle.amh_host.specs.Written.{Writes, WritesFront}
use Rattle.design_ir.specs.Circuits.{Circuit}
use Rattle.play_text.specs.Boards.{board_of}
use Rattle.play_text.specs.Trace.{Row, End, front_text}
use Rattle.py_frames.specs.declared.request.Cause.{Cause}
use Rattle.py_frames.specs.declared.request.Cause.TheVariants as cause
use Rattle.amh_host.specs.declared.place.Place.{Place}
use Rattle.amh_tool.specs.Designs.{Given, circuit_of}
use Rattle.amh_tool.specs.Plan.{Plan}
use Rattle.amh_tool.specs.Outcome.{Outcome, Accepts, end_by, end_of, end_status, end_told, end_warned}
use Rattle.amh_tool.specs.RunParts.{RunPart, RunWritten}
use Rattle.amh_tool.specs.Work.{AcceptedPart, CarriesRun, ClosedFront, Owed, Performs, PerformsRun, WritesRtlil, WritesRtlilPart, closed, with_files}
use Rattle.amh_tool.specs.Headline.{StandsFor}
use Rattle.amh_tool.specs.declared.run_rows.Ending.{Ending}
use Rattle.amh_tool.specs.declared.running.Status.{Status}

-- ---- what is said or warned

-- what stopped the events is warned
pub closed-by : (p : Plan) (columns events : ℕ) (why : Cause) (place : Place) (s : Seen) → closed p columns events (end_by why place) s ≡ with_warned (end_warned p (end_by why place)) s
closed-by p columns events cause.Raised place s = refl
closed-by p columns events cause.Width place s = refl
closed-by p columns events cause.Limit place s = refl
closed-by p columns events cause.Assert place s = refl
closed-by p columns events cause.Spent place s = refl

pub ClosedFront-by : (p : Plan) (columns events : ℕ) (why : Cause) (place : Place) (old new : Seen) → AddsFront with_warned (end_warned p (end_by why place)) old new → ClosedFront p columns events (end_by why place) old new
ClosedFront-by p columns events cause.Raised place old new h = h
ClosedFront-by p columns events cause.Width place old new h = h
ClosedFront-by p columns events cause.Limit place old new h = h
ClosedFront-by p columns events cause.Assert place old new h = h
ClosedFront-by p columns events cause.Spent place old new h = h

-- ---- RTLIL

pub rtlil_whole : {E : Type 0} (p : Plan) (c : Circuit) (il : List ℕ) (old new : Seen) (r : Result (Unit {0}) E) → StandsFor il c → Writes p.il il r old new → OnOk r (WritesRtlil p c old new)
rtlil_whole p c il old new (Ok x) stands h = record { il = il; stands = stands; whole = h }
rtlil_whole p c il old new (Err e) stands h = tt

pub rtlil_part : {E : Type 0} (p : Plan) (c : Circuit) (il : List ℕ) (old new : Seen) (r : Result (Unit {0}) E) → StandsFor il c → Writes p.il il r old new → OnErr r ((new ≡ old) ⊎ WritesRtlilPart p c old new)
rtlil_part p c il old new (Ok x) stands h = tt
rtlil_part p c il old new (Err e) stands h = inr (record { il = il; stands = stands; part = h })

-- ---- behind the two files

-- the closing text as the code gave it
pub record IsClosing (c : Circuit) (rows : List Row) (end : End) (columns events : ℕ) (told : End) : Type 0 where
  pub columns_are : columns ≡ length c.columns
  pub events_are : events ≡ length rows
  pub ends : told ≡ end

pub performs : (p : Plan) (c : Circuit) (rows : List Row) (end : End) (owed : Owed c rows end) (columns events : ℕ) (told : End) (old mid new : Seen) (status : Status) → IsClosing c rows end columns events told → mid ≡ with_files p owed.il owed.trace old
    → status ≡ end_status told → new ≡ closed p columns events told mid → Performs p (Accepts c rows end) status old new
performs p c rows end owed columns events told old mid new status k files s h =
    (ap Some (sym (s ∙ ap end_status k.ends)), (owed, h ∙ (λ i. closed p (k.columns_are i) (k.events_are i) (k.ends i) (files i))))

pub closing_part : (p : Plan) (c : Circuit) (rows : List Row) (end : End) (owed : Owed c rows end) (columns events : ℕ) (told : End) (old mid new : Seen) → IsClosing c rows end columns events told → mid ≡ with_files p owed.il owed.trace old
    → ClosedFront p columns events told mid new → AcceptedPart p c rows end old new
closing_part p c rows end owed columns events told old mid new k files h =
    let a = subst (λ s. ClosedFront p columns events told s new) files h in
    let b = subst (λ n. ClosedFront p n events told (with_files p owed.il owed.trace old) new) k.columns_are a in
    let d = subst (λ n. ClosedFront p (length c.columns) n told (with_files p owed.il owed.trace old) new) k.events_are b in
    inr (inr (record { owed = owed; part = inr (subst (λ e. ClosedFront p (length c.columns) (length rows) e (with_files p owed.il owed.trace old) new) k.ends d) }))

-- where RTLIL was refused
pub of_rtlil : (p : Plan) (c : Circuit) (rows : List Row) (end : End) (old new : Seen) → (new ≡ old) ⊎ WritesRtlilPart p c old new → AcceptedPart p c rows end old new
of_rtlil p c rows end old new (inl h) = inl h
of_rtlil p c rows end old new (inr h) = inr (inl h)

-- of a call that may be refused
pub performs_if : {E : Type 0} (p : Plan) (c : Circuit) (rows : List Row) (end : End) (owed : Owed c rows end) (columns events : ℕ) (told : End) (old mid new : Seen) (r : Result Status E) → IsClosing c rows end columns events told
    → mid ≡ with_files p owed.il owed.trace old → IfOk r (λ status. status ≡ end_status told) → IfOk r (λ status. new ≡ closed p columns events told mid) → IfOk r (λ status. Performs p (Accepts c rows end) status old new)
performs_if p c rows end owed columns events told old mid new (Ok status) k files s h = performs p c rows end owed columns events told old mid new status k files s h
performs_if p c rows end owed columns events told old mid new (Err e) k files s h = tt

pub closing_part_if : {E : Type 0} (p : Plan) (c : Circuit) (rows : List Row) (end : End) (owed : Owed c rows end) (columns events : ℕ) (told : End) (old mid new : Seen) (r : Result Status E) → IsClosing c rows end columns events told
    → mid ≡ with_files p owed.il owed.trace old → OnErr r (ClosedFront p columns events told mid new) → OnErr r (AcceptedPart p c rows end old new)
closing_part_if p c rows end owed columns events told old mid new (Ok status) k files h = tt
closing_part_if p c rows end owed columns events told old mid new (Err e) k files h = closing_part p c rows end owed columns events told old mid new k files h

-- ---- of a run

-- what the run comes to
abbrev pub outcome_of : (g : Given) (name : List ℕ) (e : Ending) (old new : Seen) → RunWritten g name e old new → Outcome
outcome_of g name e old new w = Accepts (circuit_of g) w.rows (end_of w.end)

abbrev pub run_owed : (g : Given) (name : List ℕ) (e : Ending) (old new : Seen) (w : RunWritten g name e old new) (il : List ℕ) → StandsFor il (circuit_of g) → Owed (circuit_of g) w.rows (end_of w.end)
run_owed g name e old new w il stands = record { il = il; trace = w.text; stands = stands; is_trace = w.is_trace }

pub performs_run_if : {E : Type 0} (p : Plan) (g : Given) (e : Ending) (il : List ℕ) (columns : ℕ) (old first mid new : Seen) (r : Result Status E) (w : RunWritten g p.trace e first mid) → StandsFor il (circuit_of g) → first ≡ with_file p.il il old → columns ≡ length (circuit_of g).columns
    → IfOk r (λ status. status ≡ end_status (end_told e.stop)) → IfOk r (λ status. new ≡ closed p columns e.events (end_told e.stop) mid) → IfOk r (λ status. PerformsRun p g status old new)
performs_run_if p g e il columns old first mid new (Ok status) w stands files cols s h = record {
  found = outcome_of g p.trace e first mid w;
  comes = record { rows = w.rows; end = w.end; runs = w.runs; is = refl };
  performs = performs p (circuit_of g) w.rows (end_of w.end) (run_owed g p.trace e first mid w il stands) columns e.events (end_told e.stop) old mid new status (record { columns_are = cols; events_are = w.events; ends = sym w.ends }) (w.whole ∙ ap (with_file p.trace w.text) files) s h;
}
performs_run_if p g e il columns old first mid new (Err x) w stands files cols s h = tt

pub closing_run_if : {E : Type 0} (p : Plan) (g : Given) (e : Ending) (il : List ℕ) (columns : ℕ) (old first mid new : Seen) (r : Result Status E) (w : RunWritten g p.trace e first mid) → StandsFor il (circuit_of g) → first ≡ with_file p.il il old → columns ≡ length (circuit_of g).columns
    → OnErr r (ClosedFront p columns e.events (end_told e.stop) mid new) → OnErr r (CarriesRun p g old new)
closing_run_if p g e il columns old first mid new (Ok status) w stands files cols h = tt
closing_run_if p g e il columns old first mid new (Err x) w stands files cols h = inr (inr (inr (
  outcome_of g p.trace e first mid w,
  record { rows = w.rows; end = w.end; runs = w.runs; is = refl },
  closing_part p (circuit_of g) w.rows (end_of w.end) (run_owed g p.trace e first mid w il stands) columns e.events (end_told e.stop) old mid new (record { columns_are = cols; events_are = w.events; ends = sym w.ends }) (w.whole ∙ ap (with_file p.trace w.text) files) h,
)))

-- where RTLIL was refused
pub run_of_rtlil : (p : Plan) (g : Given) (old new : Seen) → (new ≡ old) ⊎ WritesRtlilPart p (circuit_of g) old new → CarriesRun p g old new
run_of_rtlil p g old new (inl h) = inl h
run_of_rtlil p g old new (inr h) = inr (inl h)

-- a front of the trace of a run, behind all of RTLIL
pub run_part : (p : Plan) (g : Given) (il : List ℕ) (old first new : Seen) → StandsFor il (circuit_of g) → first ≡ with_file p.il il old → RunPart g p.trace first new → CarriesRun p g old new
run_part p g il old first new stands files (inl h) = inr (inr (inl (record {
  il = il;
  stands = stands;
  rows = h.rows;
  is_front = h.is_front;
  envs = h.envs;
  is_history = h.is_history;
  part = subst (λ s. WritesFront p.trace (front_text (board_of (circuit_of g)) h.rows h.envs) s new) files h.part;
})))
run_part p g il old first new stands files (inr h) = inr (inr (inr (
  Accepts (circuit_of g) h.rows (end_of h.end),
  record { rows = h.rows; end = h.end; runs = h.runs; is = refl },
  inr (inr (record { owed = record { il = il; trace = h.text; stands = stands; is_trace = h.is_trace }; part = inl (subst (λ s. WritesFront p.trace h.text s new) files h.part) })),
)))
