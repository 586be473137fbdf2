-- What a run tells next, and what is known of its rows behind it.
use Rattle.std.specs.Prelude.{◌≡◌, ◌<◌, ◌+◌, ℕ, List, [], ◌∷◌, ◌++◌, length, ℤ, Option, Some, None}
use Rattle.std.specs.List.{AllByRecursion}
use Rattle.std.proofs.Common.{refl, sym, ap, ◌∙◌, subst, arith}
use Rattle.amh_host.specs.Seen.{Seen}
use Rattle.design_ir.specs.declared.event.Event.{Event}
use Rattle.design_ir.specs.Circuits.{Circuit, at}
use Rattle.delta_sim.specs.Standing.{Simulated, Tells}
use Rattle.py_frames.specs.declared.request.Stop.{Stop}
use Rattle.bench_run.specs.declared.run.Row.{Row as CodeRow}
use Rattle.bench_run.specs.declared.run.Run.{Run as CodeRun}
use Rattle.bench_run.specs.declared.run.Stage.{Stage}
use Rattle.bench_run.specs.declared.run.Stage.TheVariants as stage
use Rattle.bench_run.specs.declared.run.RunTurn.{RunTurn}
use Rattle.bench_run.specs.declared.run.RunTurn.TheVariants as turn
use Rattle.bench_run.specs.Runs.{Over, StopsAt, run_of, first_point}
use Rattle.bench_run.specs.Standing.{StandsFor, CanGoOn, NextRow, RowTold, IsMoved, CostsRow, units_of}
use Rattle.play_text.specs.Trace.{Row, row_line}
use Rattle.play_text.specs.declared.board.Board.{Board}
use Rattle.amh_tool.specs.Designs.{Given}
use Rattle.amh_tool.specs.RunParts.{RunEnds}
use Rattle.amh_tool.specs.Verdicts.{IsRunFitting}
use Rattle.amh_tool.specs.declared.accept.Runs.{Runs as CodeRuns}
use Rattle.amh_tool.proofs.RowLaws.{IsRunAt, IsRowMore, RowsSoFar, at_goes, safe_goes, signals_at}

abbrev pub NextOf : Given → RunTurn → Stage → CodeRun → List Row → Type 0
NextOf g t before r rows = NextRow t before r (run_of g.program g.found) (first_point g.found g.left) rows

-- ---- a row

-- behind a row the run goes on
told_goes : (g : Given) (before : Stage) (row : CodeRow) (r : CodeRun) (rows : List Row) → RowTold before row r (run_of g.program g.found) (first_point g.found g.left) rows → r.stage ≡ stage.Goes
told_goes g stage.Before row r rows h = h.1
told_goes g stage.Goes row r rows h = h.2
told_goes g stage.Ended row r rows h = h.2
told_goes g (stage.Stopped stop) row r rows h = h.2
told_goes g stage.NoMemory row r rows h = h.2

-- the row of an event
told_event : (g : Given) (before : Stage) (row : CodeRow) (r : CodeRun) (rows : List Row) (e : Event) → row.event ≡ Some e → RowTold before row r (run_of g.program g.found) (first_point g.found g.left) rows
    → IsRunAt g r (rows ++ record { time = row.time; event = e } ∷ [])
told_event g before row r rows e is told = here before told
  where
    of : (x : Event) → row.event ≡ Some x → r.stage ≡ stage.Goes → StandsFor r (run_of g.program g.found) (first_point g.found g.left) (rows ++ record { time = row.time; event = x } ∷ []) → IsRunAt g r (rows ++ record { time = row.time; event = e } ∷ [])
    of x same goes stands =
        let one : x ≡ e = cc in
        at_goes g r _ goes (subst (λ (y : Event). StandsFor r (run_of g.program g.found) (first_point g.found g.left) (rows ++ record { time = row.time; event = y } ∷ [])) one stands)

    none : row.event ≡ None → ⊥
    none same = cc

    here : (b : Stage) → RowTold b row r (run_of g.program g.found) (first_point g.found g.left) rows → IsRunAt g r (rows ++ record { time = row.time; event = e } ∷ [])
    here stage.Before h = absurd (none (ap (λ (x : CodeRow). x.event) h.0))
    here stage.Goes h = of h.0 h.1 h.2 h.3
    here stage.Ended h = of h.0 h.1 h.2 h.3
    here (stage.Stopped stop) h = of h.0 h.1 h.2 h.3
    here stage.NoMemory h = of h.0 h.1 h.2 h.3

-- the row without an event is the first, and stands for none
pub record IsFirstOf (g : Given) (earlier : Stage) (r : CodeRun) (rows : List Row) : Type 0 where
  pub before : earlier ≡ stage.Before
  pub goes : r.stage ≡ stage.Goes
  pub stands : StandsFor r (run_of g.program g.found) (first_point g.found g.left) rows

pub told_first : (g : Given) (before : Stage) (row : CodeRow) (r : CodeRun) (rows : List Row) → row.event ≡ None → RowTold before row r (run_of g.program g.found) (first_point g.found g.left) rows → IsFirstOf g before r rows
told_first g before row r rows none told = here before told
  where
    some : (e : Event) → row.event ≡ Some e → ⊥
    some e same = cc

    here : (b : Stage) → RowTold b row r (run_of g.program g.found) (first_point g.found g.left) rows → IsFirstOf g b r rows
    here stage.Before h = record { before = refl; goes = h.1; stands = h.2 }
    here stage.Goes h = absurd (some h.0 h.1)
    here stage.Ended h = absurd (some h.0 h.1)
    here (stage.Stopped stop) h = absurd (some h.0 h.1)
    here stage.NoMemory h = absurd (some h.0 h.1)

-- ---- an event

-- the numbers of all signals
pub many_at : (g : Given) (r : CodeRuns) (new : CodeRun) (rows : List Row) → IsRunFitting g r → IsRunAt g new rows → new.stage ≡ stage.Goes → CanGoOn new → length new.point.sim.env ≡ length r.run.point.bench.design.pool.signals
many_at g r new rows fits at goes going =
    (safe_goes new goes going).sim.env.count ∙ signals_at g new rows at ∙ sym (ap (λ (d : Circuit). length d.pool.signals) fits.design)

pub signals_below : (c : Circuit) (n : ℕ) (moved : List ℕ) → n ≡ length c.pool.signals → AllByRecursion (λ s. s < length c.pool.signals) moved → AllByRecursion (λ s. s < n) moved
signals_below c n moved is h = subst (λ k. AllByRecursion (λ s. s < k) moved) (sym is) h

-- ---- what a row costs, and what it moves

pub tells_event : (row : CodeRow) (e : Event) (old new : CodeRun) → row.event ≡ Some e → IsMoved row.event old new → Tells new.point.bench.design old.point.sim new.point.sim
tells_event row e old new is h = subst (λ (o : Option Event). IsMoved o old new) is h

pub costs_event : (row : CodeRow) (e : Event) (old new : CodeRun) → row.event ≡ Some e → CostsRow row.event old new → units_of new.point < units_of old.point
costs_event row e old new is h = subst (λ (o : Option Event). CostsRow o old new) is h

pub costs_first : (row : CodeRow) (old new : CodeRun) → row.event ≡ None → CostsRow row.event old new → units_of new.point ≡ units_of old.point
costs_first row old new is h = subst (λ (o : Option Event). CostsRow o old new) is h

pub same_first : (row : CodeRow) (old new : CodeRun) → row.event ≡ None → IsMoved row.event old new → new.point.sim ≡ old.point.sim
same_first row old new is h = subst (λ (o : Option Event). IsMoved o old new) is h

-- each event costs a unit, and the first row comes once
abbrev pub first_left : Stage → ℕ
first_left stage.Before = 1
first_left stage.Goes = 0
first_left stage.Ended = 0
first_left (stage.Stopped stop) = 0
first_left stage.NoMemory = 0

abbrev pub left_of : CodeRun → ℕ
left_of r = units_of r.point + first_left r.stage

-- so behind a row less is left
pub less_left : (g : Given) (row : CodeRow) (old new : CodeRun) (rows : List Row) → RowTold old.stage row new (run_of g.program g.found) (first_point g.found g.left) rows → CostsRow row.event old new → left_of new < left_of old
less_left g row old new rows told costs = here row.event refl
  where
    here : (o : Option Event) → row.event ≡ o → left_of new < left_of old
    here None is =
        let first = told_first g old.stage row new rows is told in
        omega (arith, ap first_left first.before, ap first_left first.goes, costs_first row old new is costs)
    here (Some e) is = omega (arith, ap first_left (told_goes g old.stage row new rows told), costs_event row e old new is costs)

-- behind the first row the rows so far are the same
pub none_more : (g : Given) (name : List ℕ) (first : List ℤ) (old new : CodeRun) (events : ℕ) (before now : Seen) (h : RowsSoFar g name first old events before now) → StandsFor new (run_of g.program g.found) (first_point g.found g.left) h.rows → new.point.sim ≡ old.point.sim
    → RowsSoFar g name first new events before now
none_more g name first old new events before now h stands same = record {
  rows = h.rows;
  stands = stands;
  front = h.front;
  envs = h.envs;
  is_history = h.is_history;
  last = h.last ∙ sym (ap (λ (s : Simulated). s.env) same);
  count = h.count;
  added = h.added;
}

-- ---- the line of an event

-- the row of an event, and the run behind it, whatever it stands for
pub record IsEventOf (row : CodeRow) (e : Event) (old new : CodeRun) : Type 0 where
  pub is : row.event ≡ Some e
  pub going : CanGoOn new
  pub told : (g : Given) (rows : List Row) → StandsFor old (run_of g.program g.found) (first_point g.found g.left) rows → RowTold old.stage row new (run_of g.program g.found) (first_point g.found g.left) rows

-- behind it the run goes on
pub event_goes : (g : Given) (name : List ℕ) (first : List ℤ) (row : CodeRow) (e : Event) (old new : CodeRun) (events : ℕ) (before now : Seen) → RowsSoFar g name first old events before now → IsEventOf row e old new → new.stage ≡ stage.Goes
event_goes g name first row e old new events before now h k = told_goes g old.stage row new h.rows (k.told g h.rows h.stands)

pub many_event : (g : Given) (r : CodeRuns) (name : List ℕ) (row : CodeRow) (e : Event) (old new : CodeRun) (events : ℕ) (before now : Seen) → IsRunFitting g r → RowsSoFar g name r.run.point.sim.env old events before now → IsEventOf row e old new
    → length new.point.sim.env ≡ length r.run.point.bench.design.pool.signals
many_event g r name row e old new events before now fits h k =
    many_at g r new _ fits (told_event g old.stage row new h.rows e k.is (k.told g h.rows h.stands)) (event_goes g name r.run.point.sim.env row e old new events before now h k) k.going

-- its line, by the numbers that the code has
pub line_by : (b : Board) (r : Row) (line : List ℕ) (before last now next : List ℤ) → line ≡ row_line b r before now → before ≡ last → now ≡ next → line ≡ row_line b r last next
line_by b r line before last now next is old new = is ∙ (λ i. row_line b r (old i) (new i))

-- one row more, with its line
pub row_more : (g : Given) (r : CodeRuns) (name : List ℕ) (row : CodeRow) (e : Event) (line : List ℕ) (b : Board) (old new : CodeRun) (events : ℕ) (before now : Seen) → IsRunFitting g r → (h : RowsSoFar g name r.run.point.sim.env old events before now) → IsEventOf row e old new → b ≡ r.board
    → line ≡ row_line b (record { time = row.time; event = e }) old.point.sim.env new.point.sim.env
    → IsRowMore g name r.run.point.sim.env (record { time = row.time; event = e }) line old new h.rows
row_more g r name row e line b old new events before now fits h k board is = record {
  at = told_event g old.stage row new h.rows e k.is (k.told g h.rows h.stands);
  goes = event_goes g name r.run.point.sim.env row e old new events before now h k;
  is_line = is ∙ ap (λ (x : Board). row_line x (record { time = row.time; event = e }) old.point.sim.env new.point.sim.env) (board ∙ fits.board);
}

-- ---- the end of a run

pub run_over : (g : Given) (name : List ℕ) (first : List ℤ) (old : CodeRun) (new : CodeRun) (events : ℕ) (before now : Seen) (h : RowsSoFar g name first old events before now) → NextOf g turn.Ended old.stage new h.rows
    → RunEnds g name first (record { events = events; stop = None }) before now
run_over g name first old new events before now h next = record {
  rows = h.rows;
  end = Over;
  runs = next.1;
  events = h.count;
  ends = refl;
  added = record { envs = h.envs; is_history = h.is_history; added = h.added };
}

pub run_stopped : (g : Given) (name : List ℕ) (first : List ℤ) (old : CodeRun) (new : CodeRun) (events : ℕ) (before now : Seen) (stop : Stop) (h : RowsSoFar g name first old events before now) → NextOf g (turn.Stopped stop) old.stage new h.rows
    → RunEnds g name first (record { events = events; stop = Some stop }) before now
run_stopped g name first old new events before now stop h next = record {
  rows = h.rows;
  end = StopsAt stop;
  runs = next.1;
  events = h.count;
  ends = refl;
  added = record { envs = h.envs; is_history = h.is_history; added = h.added };
}
