-- Rows of a run, one behind the other.
use Rattle.std.specs.Prelude.{◌≡◌, ◌+◌, ℕ, List, [], ◌∷◌, ◌++◌, length, ℤ}
use Rattle.std.proofs.Common.{refl, sym, ap, ◌∙◌, subst, arith, append_assoc, length-append}
use Rattle.std.proofs.lemmas.List.{append-nil}
use Rattle.amh_host.specs.Seen.{Seen, written}
use Rattle.amh_host.specs.Calls.{AddsFront}
use Rattle.amh_host.proofs.SeenLaws.{written-nil, written-written, AddsFront-behind}
use Rattle.design_ir.specs.declared.event.Event.{Event}
use Rattle.design_ir.specs.Circuits.{Circuit, State}
use Rattle.design_ir.specs.Histories.{HistoryFrom, History, Reaches}
use Rattle.design_ir.specs.Steps.{step, first_state}
use Rattle.design_ir.proofs.Runs.{Ends, history_of}
use Rattle.comb_graph.specs.Laws.{HasOneHistory}
use Rattle.delta_sim.specs.Standing.{state_of}
use Rattle.netlist_laws.specs.Histories.{IsHistory}
use Rattle.bench_run.specs.declared.run.Run.{Run as CodeRun}
use Rattle.bench_run.specs.declared.run.Stage.{Stage}
use Rattle.bench_run.specs.declared.run.Stage.TheVariants as stage
use Rattle.bench_run.specs.Runs.{run_of, first_point}
use Rattle.bench_run.specs.Standing.{StandsAs, StandsFor, IsAt, IsGoing, CanGoOn, IsSafe}
use Rattle.play_text.specs.declared.board.Board.{Board}
use Rattle.play_text.specs.Boards.{board_of}
use Rattle.play_text.specs.Trace.{Row, events_in, row_line, row_lines}
use Rattle.amh_tool.specs.Designs.{Given, circuit_of}
use Rattle.amh_tool.specs.RunParts.{RowsAddedFront}
use Rattle.amh_tool.specs.Verdicts.{IsRunFitting}
use Rattle.amh_tool.specs.Work.{IsRunFront}
use Rattle.amh_tool.specs.declared.accept.Runs.{Runs as CodeRuns}

-- ---- lists

pub events_in-more : (rows : List Row) (r : Row) → events_in (rows ++ r ∷ []) ≡ events_in rows ++ r.event ∷ []
events_in-more [] r = refl
events_in-more (q ∷ rows) r = ap (λ es. q.event ∷ es) (events_in-more rows r)

pub length-more : {A : Type 0} (xs : List A) (x : A) → length (xs ++ x ∷ []) ≡ length xs + 1
length-more xs x = omega (arith, length-append xs (x ∷ []))

-- the last one of these
abbrev pub last_of : List ℤ → List (List ℤ) → List ℤ
last_of first [] = first
last_of first (env ∷ envs) = last_of env envs

pub last_of-more : (first : List ℤ) (envs : List (List ℤ)) (now : List ℤ) → last_of first (envs ++ now ∷ []) ≡ now
last_of-more first [] now = refl
last_of-more first (env ∷ envs) now = last_of-more env envs now

-- ---- histories

-- a history of one event more goes on from one without it
history_split : (c : Circuit) (st : State) (es : List Event) (e : Event) (envs : List (List ℤ)) (last : State) (now : List ℤ) → HistoryFrom c st (es ++ e ∷ []) envs → Ends c st (es ++ e ∷ []) envs last now
    → (front : List (List ℤ)) × HistoryFrom c st es front × (envs ≡ front ++ now ∷ [])
history_split c st [] e [] last now h ends = absurd h
history_split c st [] e (x ∷ []) last now h ends = absurd h.1
history_split c st [] e (x ∷ y ∷ []) last now h ends = (x ∷ [], h.0, ap (λ z. x ∷ z ∷ []) (sym ends.1))
history_split c st [] e (x ∷ y ∷ z ∷ more) last now h ends = absurd h.1
history_split c st (d ∷ es) e [] last now h ends = absurd h
history_split c st (d ∷ es) e (x ∷ envs) last now h ends =
    let rest = history_split c (step c st x d) es e envs last now h.1 ends in
    (x ∷ rest.0, (h.0, rest.1), ap (λ l. x ∷ l) rest.2)

-- the one history, with one event more
pub history_more : (c : Circuit) (es : List Event) (e : Event) (first : List ℤ) (envs : List (List ℤ)) (st : State) (now : List ℤ) → IsHistory c es (first ∷ envs) → Reaches c (es ++ e ∷ []) st now → HasOneHistory c (es ++ e ∷ [])
    → IsHistory c (es ++ e ∷ []) (first ∷ (envs ++ now ∷ []))
history_more c es e first envs st now h reaches one =
    let n = history_of c (es ++ e ∷ []) st now reaches in
    let s = history_split c (first_state c) es e n.0 st now n.1 n.2 in
    let whole : n.0 ≡ first ∷ (envs ++ now ∷ []) = s.2 ∙ ap (λ l. l ++ now ∷ []) (h.only s.0 s.1) in
    record {
      settles = subst (λ l. History c (es ++ e ∷ []) l) whole n.1;
      only = λ others k. one.only others k ∙ sym (one.only n.0 n.1) ∙ whole;
    }

-- the one history before any event
pub history_none : (c : Circuit) (st : State) (now : List ℤ) → Reaches c [] st now → HasOneHistory c [] → IsHistory c [] (now ∷ [])
history_none c st now reaches one =
    let n = history_of c [] st now reaches in
    let whole = here n.0 n.2 in
    record { settles = subst (λ l. History c [] l) whole n.1; only = λ others k. one.only others k ∙ sym (one.only n.0 n.1) ∙ whole }
  where
    here : (envs : List (List ℤ)) → Ends c (first_state c) [] envs st now → envs ≡ now ∷ []
    here [] ends = absurd ends
    here (env ∷ []) ends = ap (λ z. z ∷ []) (sym ends.1)
    here (env ∷ more ∷ envs) ends = absurd ends

-- ---- lines

-- the lines of one row more
pub row_lines-more : (c : Circuit) (st : State) (b : Board) (rows : List Row) (r : Row) (first : List ℤ) (envs : List (List ℤ)) (now : List ℤ) → HistoryFrom c st (events_in rows) (first ∷ envs)
    → row_lines b (rows ++ r ∷ []) first (envs ++ now ∷ []) ≡ row_lines b rows first envs ++ row_line b r (last_of first envs) now
row_lines-more c st b [] r first [] now h = append-nil (row_line b r first now)
row_lines-more c st b [] r first (x ∷ envs) now h = absurd h
row_lines-more c st b (q ∷ rows) r first [] now h = absurd (none rows h.1)
  where
    none : (qs : List Row) → HistoryFrom c (step c st first q.event) (events_in qs) [] → ⊥
    none [] k = k
    none (p ∷ qs) k = k
row_lines-more c st b (q ∷ rows) r first (x ∷ envs) now h =
    ap (λ l. row_line b q first x ++ l) (row_lines-more c (step c st first q.event) b rows r x envs now h.1)
    ∙ sym (append_assoc (row_line b q first x) (row_lines b rows x envs) (row_line b r (last_of x envs) now))

-- ---- what a run stands for

abbrev pub IsRunAt : Given → CodeRun → List Row → Type 0
IsRunAt g r rows = IsAt r.setting r.point (run_of g.program g.found) (first_point g.found g.left) rows

pub at_goes : (g : Given) (r : CodeRun) (rows : List Row) → r.stage ≡ stage.Goes → StandsFor r (run_of g.program g.found) (first_point g.found g.left) rows → IsRunAt g r rows
at_goes g r rows e h = subst (λ (s : Stage). StandsAs s r (run_of g.program g.found) (first_point g.found g.left) rows) e h

pub at_before : (g : Given) (r : CodeRun) → r.stage ≡ stage.Before → StandsFor r (run_of g.program g.found) (first_point g.found g.left) [] → IsRunAt g r []
at_before g r e h = (subst (λ (s : Stage). StandsAs s r (run_of g.program g.found) (first_point g.found g.left) []) e h).1

pub safe_goes : (r : CodeRun) → r.stage ≡ stage.Goes → CanGoOn r → IsSafe r.setting r.point
safe_goes r e h = subst (λ (s : Stage). IsGoing s r) e h

pub safe_before : (r : CodeRun) → r.stage ≡ stage.Before → CanGoOn r → IsSafe r.setting r.point
safe_before r e h = subst (λ (s : Stage). IsGoing s r) e h

pub front_at : (g : Given) (r : CodeRun) (rows : List Row) → IsRunAt g r rows → IsRunFront g rows
front_at g r rows h = record { point = h.point; follows = h.follows }

-- the signals of the design stay
pub signals_at : (g : Given) (r : CodeRun) (rows : List Row) → IsRunAt g r rows → length r.point.bench.design.pool.signals ≡ length (circuit_of g).pool.signals
signals_at g r rows h = ap length h.linked.grown.more.signals

-- the rows so far, their lines in the file, and what comes behind
pub record RowsSoFar (g : Given) (name : List ℕ) (first : List ℤ) (run : CodeRun) (events : ℕ) (old new : Seen) : Type 0 where
  pub rows : List Row
  pub stands : StandsFor run (run_of g.program g.found) (first_point g.found g.left) rows
  pub front : IsRunFront g rows
  pub envs : List (List ℤ)
  pub is_history : IsHistory (circuit_of g) (events_in rows) (first ∷ envs)
  pub last : last_of first envs ≡ run.point.sim.env
  pub count : events ≡ length rows
  pub added : new ≡ written name (row_lines (board_of (circuit_of g)) rows first envs) old

-- before any row
pub none_so_far : (g : Given) (name : List ℕ) (r : CodeRuns) (s : Seen) → IsRunFitting g r → RowsSoFar g name r.run.point.sim.env r.run 0 s s
none_so_far g name r s h =
    let at = at_before g r.run h.before h.stands in
    record {
      rows = [];
      stands = h.stands;
      front = front_at g r.run [] at;
      envs = [];
      is_history = history_none (circuit_of g) _ r.run.point.sim.env at.linked.reached (at.linked.one [] tt);
      last = refl;
      count = refl;
      added = sym (written-nil name s);
    }

-- what a file has of the rows where a call was refused before it wrote
pub so_far_front : (g : Given) (name : List ℕ) (first : List ℤ) (run : CodeRun) (events : ℕ) (old new : Seen) → RowsSoFar g name first run events old new → RowsAddedFront g name first old new
so_far_front g name first run events old new h = record {
  rows = h.rows;
  is_front = h.front;
  envs = h.envs;
  is_history = h.is_history;
  part = record { front = row_lines (board_of (circuit_of g)) h.rows first h.envs; rest = []; whole = append-nil _; changed = h.added };
}

-- one row more, as the code has it
pub record IsRowMore (g : Given) (name : List ℕ) (first : List ℤ) (r : Row) (line : List ℕ) (old new : CodeRun) (rows : List Row) : Type 0 where
  pub at : IsRunAt g new (rows ++ r ∷ [])
  pub goes : new.stage ≡ stage.Goes
  pub is_line : line ≡ row_line (board_of (circuit_of g)) r old.point.sim.env new.point.sim.env

more_history : (g : Given) (name : List ℕ) (first : List ℤ) (run : CodeRun) (events : ℕ) (old now : Seen) (h : RowsSoFar g name first run events old now) (r : Row) (new : CodeRun) → IsRunAt g new (h.rows ++ r ∷ [])
    → IsHistory (circuit_of g) (events_in (h.rows ++ r ∷ [])) (first ∷ (h.envs ++ new.point.sim.env ∷ []))
more_history g name first run events old now h r new at =
    let c = circuit_of g in
    let more = events_in-more h.rows r in
    let reached = subst (λ es. Reaches c es (state_of new.point.sim.held new.point.sim.rows) new.point.sim.env) more at.linked.reached in
    let one = subst (λ es. HasOneHistory c es) more (at.linked.one (events_in (h.rows ++ r ∷ [])) at.linked.legal) in
    subst (λ es. IsHistory c es (first ∷ (h.envs ++ new.point.sim.env ∷ []))) (sym more) (history_more c (events_in h.rows) r.event first h.envs (state_of new.point.sim.held new.point.sim.rows) new.point.sim.env h.is_history reached one)

more_lines : (g : Given) (name : List ℕ) (first : List ℤ) (run : CodeRun) (events : ℕ) (old now : Seen) (h : RowsSoFar g name first run events old now) (r : Row) (line : List ℕ) (new : CodeRun) → IsRowMore g name first r line run new h.rows
    → row_lines (board_of (circuit_of g)) h.rows first h.envs ++ line ≡ row_lines (board_of (circuit_of g)) (h.rows ++ r ∷ []) first (h.envs ++ new.point.sim.env ∷ [])
more_lines g name first run events old now h r line new k =
    let b = board_of (circuit_of g) in
    ap (λ l. row_lines b h.rows first h.envs ++ l) (k.is_line ∙ ap (λ env. row_line b r env new.point.sim.env) (sym h.last))
    ∙ sym (row_lines-more (circuit_of g) (first_state (circuit_of g)) b h.rows r first h.envs new.point.sim.env h.is_history.settles)

-- the line of one row more was added
pub one_more : (g : Given) (name : List ℕ) (first : List ℤ) (run : CodeRun) (events : ℕ) (old now later : Seen) (h : RowsSoFar g name first run events old now) (r : Row) (line : List ℕ) (new : CodeRun)
    → IsRowMore g name first r line run new h.rows → later ≡ written name line now → RowsSoFar g name first new (events + 1) old later
one_more g name first run events old now later h r line new k e = record {
  rows = h.rows ++ r ∷ [];
  stands = subst (λ (s : Stage). StandsAs s new (run_of g.program g.found) (first_point g.found g.left) (h.rows ++ r ∷ [])) (sym k.goes) k.at;
  front = front_at g new (h.rows ++ r ∷ []) k.at;
  envs = h.envs ++ new.point.sim.env ∷ [];
  is_history = more_history g name first run events old now h r new k.at;
  last = last_of-more first h.envs new.point.sim.env;
  count = ap (λ n. n + 1) h.count ∙ sym (length-more h.rows r);
  added =
      e ∙ ap (written name line) h.added ∙ written-written name (row_lines (board_of (circuit_of g)) h.rows first h.envs) line old
      ∙ ap (λ l. written name l old) (more_lines g name first run events old now h r line new k);
}

-- a front of it was
pub one_more_front : (g : Given) (name : List ℕ) (first : List ℤ) (run : CodeRun) (events : ℕ) (old now later : Seen) (h : RowsSoFar g name first run events old now) (r : Row) (line : List ℕ) (new : CodeRun)
    → IsRowMore g name first r line run new h.rows → AddsFront (written name) line now later → RowsAddedFront g name first old later
one_more_front g name first run events old now later h r line new k a = record {
  rows = h.rows ++ r ∷ [];
  is_front = front_at g new (h.rows ++ r ∷ []) k.at;
  envs = h.envs ++ new.point.sim.env ∷ [];
  is_history = more_history g name first run events old now h r new k.at;
  part =
      subst (λ l. AddsFront (written name) l old later) (more_lines g name first run events old now h r line new k)
      (AddsFront-behind name (row_lines (board_of (circuit_of g)) h.rows first h.envs) old (subst (λ (x : Seen). AddsFront (written name) line x later) h.added a));
}
