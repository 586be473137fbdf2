-- Rows, and the history that a simulator goes through.
use Rattle.std.specs.Prelude.{◌≡◌, ◌<◌, ◌+◌, ℕ, zero, suc, List, [], ◌∷◌, ◌++◌, length, drop, get_or, ℤ}
use Rattle.std.proofs.Common.{refl, sym, ap, ◌∙◌, subst, inl, inr, arith, add-one, append_assoc}
use Rattle.std.proofs.lemmas.List.{append-nil}
use Rattle.std.specs.List.{flat_map}
use Rattle.amh_host.specs.Seen.{Seen, with_file, written}
use Rattle.amh_host.specs.Calls.{AddsFront}
use Rattle.amh_host.specs.Written.{WritesFront}
use Rattle.amh_host.proofs.SeenLaws.{AddsFront-before, AddsFront-behind}
use Rattle.design_ir.specs.declared.event.Event.{Event}
use Rattle.design_ir.specs.Circuits.{Circuit, State}
use Rattle.design_ir.specs.Histories.{HistoryFrom, History}
use Rattle.design_ir.specs.Legal.{AllLegal, IsLegal}
use Rattle.design_ir.specs.Settled.{Settled}
use Rattle.design_ir.specs.Steps.{step, first_state}
use Rattle.design_ir.proofs.Runs.{Ends, extend, history_of}
use Rattle.comb_graph.specs.Laws.{HasOneHistory}
use Rattle.delta_sim.specs.Standing.{Simulated, Stands, state_of}
use Rattle.netlist_laws.specs.Histories.{IsHistory}
use Rattle.play_text.specs.declared.board.Board.{Board}
use Rattle.amh_tool.specs.declared.accept.Accepted.{Accepted}
use Rattle.amh_tool.specs.Headline.{IsTrace}
use Rattle.play_text.specs.Trace.{Row, End, timed, events_in, head_line, end_line, column_line, first_line, row_line, row_lines, front_text, trace_text}
use Rattle.amh_tool.specs.Verdicts.{IsFitting, ending_of, events_of, rows_of}

-- ---- lists of events

pub events_in-timed : (n : ℕ) (es : List Event) → events_in (timed n es) ≡ es
events_in-timed n [] = refl
events_in-timed n (e ∷ es) = ap (λ r. e ∷ r) (events_in-timed (suc n) es)

drop_next : {A : Type 0} (xs : List A) (i : ℕ) (x : A) → i < length xs → x ≡ get_or xs i x → drop i xs ≡ x ∷ drop (suc i) xs
drop_next [] i x h e = absurd (omega arith)
drop_next (y ∷ ys) zero x h e = ap (λ z. z ∷ ys) (sym e)
drop_next (y ∷ ys) (suc i) x h e = drop_next ys i x (omega arith) e

-- an element, and those behind it
pub drop_at : {A : Type 0} (xs : List A) (i : ℕ) (x : A) → i < length xs → x ≡ get_or xs i x → drop i xs ≡ x ∷ drop (i + 1) xs
drop_at xs i x h e = rw add-one (drop_next xs i x h e)

-- one event more has come
pub gone_next : (gone to_come more all : List Event) (e : Event) → to_come ≡ e ∷ more → gone ++ to_come ≡ all → (gone ++ e ∷ []) ++ more ≡ all
gone_next gone to_come more all e split whole = append_assoc gone (e ∷ []) more ∙ ap (λ es. gone ++ es) (sym split) ∙ whole

legal_front : (c : Circuit) (gone more : List Event) (e : Event) → AllLegal c (gone ++ e ∷ more) → IsLegal c e × AllLegal c (gone ++ e ∷ [])
legal_front c [] more e h = (h.0, (h.0, tt))
legal_front c (d ∷ gone) more e h = let rest = legal_front c gone more e h.1 in (rest.0, (h.0, rest.1))

-- the next event is legal, and so are all up to it
pub legal_next : (c : Circuit) (gone to_come more all : List Event) (e : Event) → to_come ≡ e ∷ more → gone ++ to_come ≡ all → AllLegal c all → IsLegal c e × AllLegal c (gone ++ e ∷ [])
legal_next c gone to_come more all e split whole h = legal_front c gone more e (subst (AllLegal c) (sym (ap (λ es. gone ++ es) (sym split) ∙ whole)) h)

-- ---- histories

-- a history comes to one state, with one environment
ends_once : (c : Circuit) (st : State) (es : List Event) (envs : List (List ℤ)) (s t : State) (m n : List ℤ) → Ends c st es envs s m → Ends c st es envs t n → (s ≡ t) × (m ≡ n)
ends_once c st [] [] s t m n h k = absurd h
ends_once c st [] (env ∷ []) s t m n h k = (h.0 ∙ sym k.0, h.1 ∙ sym k.1)
ends_once c st [] (env ∷ more ∷ envs) s t m n h k = absurd h
ends_once c st (e ∷ es) [] s t m n h k = absurd h
ends_once c st (e ∷ es) (env ∷ envs) s t m n h k = ends_once c (step c st env e) es envs s t m n h k

-- the simulator holds this state, and has these numbers
record IsAt (st : State) (numbers : List ℤ) (s : Simulated) : Type 0 where
  state : state_of s.held s.rows ≡ st
  env : s.env ≡ numbers

-- where events have one history, what a simulator came to behind one event more is what follows from where it stood
next_is : (c : Circuit) (es : List Event) (e : Event) (old new : Simulated) (x : List ℤ) → HasOneHistory c (es ++ e ∷ []) → Stands c es old → Stands c (es ++ e ∷ []) new
    → Settled c (step c (state_of old.held old.rows) old.env e) x → IsAt (step c (state_of old.held old.rows) old.env e) x new
next_is c es e old new x one was is settled =
    let o = history_of c es (state_of old.held old.rows) old.env was.reaches in
    let n = history_of c (es ++ e ∷ []) (state_of new.held new.rows) new.env is.reaches in
    let more = extend c (first_state c) es o.0 (state_of old.held old.rows) old.env e x o.1 o.2 settled in
    let same : o.0 ++ x ∷ [] ≡ n.0 = one.only (o.0 ++ x ∷ []) more.0 ∙ sym (one.only n.0 n.1) in
    let ends = subst (λ envs. Ends c (first_state c) (es ++ e ∷ []) envs (step c (state_of old.held old.rows) old.env e) x) same more.1 in
    let both = ends_once c (first_state c) (es ++ e ∷ []) n.0 (state_of new.held new.rows) (step c (state_of old.held old.rows) old.env e) new.env x n.2 ends in
    record { state = both.0; env = both.1 }

-- before any event a simulator holds the first state
first_is : (c : Circuit) (s : Simulated) → Stands c [] s → state_of s.held s.rows ≡ first_state c
first_is c s h =
    let past = history_of c [] (state_of s.held s.rows) s.env h.reaches in here past.0 past.2
  where
    here : (envs : List (List ℤ)) → Ends c (first_state c) [] envs (state_of s.held s.rows) s.env → state_of s.held s.rows ≡ first_state c
    here [] ends = absurd ends
    here (env ∷ []) ends = ends.0
    here (env ∷ more ∷ envs) ends = absurd ends

settled_first : (c : Circuit) (s : Simulated) → Stands c [] s → Settled c (first_state c) s.env
settled_first c s h =
    let past = history_of c [] (state_of s.held s.rows) s.env h.reaches in here past.0 past.1 past.2
  where
    here : (envs : List (List ℤ)) → History c [] envs → Ends c (first_state c) [] envs (state_of s.held s.rows) s.env → Settled c (first_state c) s.env
    here [] history ends = absurd ends
    here (env ∷ []) history ends = subst (Settled c (first_state c)) (sym ends.1) history
    here (env ∷ more ∷ envs) history ends = absurd ends

-- the history that begins with these numbers
pub record BeginsWith (c : Circuit) (events : List Event) (first : List ℤ) : Type 0 where
  pub envs : List (List ℤ)
  pub is_history : IsHistory c events (first ∷ envs)

-- the one history begins with the numbers of a simulator before any event
pub begins_with : (c : Circuit) (events : List Event) (s : Simulated) → ((es : List Event) → AllLegal c es → HasOneHistory c es) → AllLegal c events → Stands c [] s → BeginsWith c events s.env
begins_with c events s law legal first =
    let one = law events legal in here events one.envs one.settles one.only
  where
    same : (x : List ℤ) → Settled c (first_state c) x → x ≡ s.env
    same x settled =
        let one = law [] tt in
        let a : x ∷ [] ≡ one.envs = one.only (x ∷ []) settled in
        let b : s.env ∷ [] ≡ one.envs = one.only (s.env ∷ []) (settled_first c s first) in
        cc

    begun : (es : List Event) (x : List ℤ) (envs : List (List ℤ)) → x ≡ s.env → History c es (x ∷ envs) → ((others : List (List ℤ)) → History c es others → others ≡ x ∷ envs) → BeginsWith c es s.env
    begun es x envs e settles only = record {
      envs = envs;
      is_history = record {
        settles = subst (λ y. History c es (y ∷ envs)) e settles;
        only = λ others h. only others h ∙ ap (λ y. y ∷ envs) e;
      };
    }

    here : (es : List Event) (envs : List (List ℤ)) → History c es envs → ((others : List (List ℤ)) → History c es others → others ≡ envs) → BeginsWith c es s.env
    here [] [] settles only = absurd settles
    here [] (x ∷ []) settles only = begun [] x [] (same x settles) settles only
    here [] (x ∷ y ∷ envs) settles only = absurd settles
    here (e ∷ es) [] settles only = absurd settles
    here (e ∷ es) (x ∷ envs) settles only = begun (e ∷ es) x envs (same x settles.0) settles only

-- ---- rows

-- how the history, and the text of its rows, go on from here
pub record GoesOn (c : Circuit) (b : Board) (time : ℕ) (to_come : List Event) (s : Simulated) (so_far all : List ℕ) : Type 0 where
  pub later : List (List ℤ)
  pub history : HistoryFrom c (state_of s.held s.rows) to_come (s.env ∷ later)
  pub text : so_far ++ row_lines b (timed (suc time) to_come) s.env later ≡ all

pub goes_from_first : (c : Circuit) (b : Board) (events : List Event) (s : Simulated) (envs : List (List ℤ)) → Stands c [] s → History c events (s.env ∷ envs)
    → GoesOn c b 0 events s [] (row_lines b (timed 1 events) s.env envs)
goes_from_first c b events s envs stands history = record {
  later = envs;
  history = subst (λ st. HistoryFrom c st events (s.env ∷ envs)) (sym (first_is c s stands)) history;
  text = refl;
}

-- one row more
pub goes_on : (c : Circuit) (b : Board) (time : ℕ) (gone to_come more : List Event) (e : Event) (old new : Simulated) (so_far line all : List ℕ)
    → to_come ≡ e ∷ more → HasOneHistory c (gone ++ e ∷ []) → Stands c gone old → Stands c (gone ++ e ∷ []) new
    → line ≡ row_line b (record { time = time + 1; event = e }) old.env new.env
    → GoesOn c b time to_come old so_far all → GoesOn c b (time + 1) more new (so_far ++ line) all
goes_on c b time gone to_come more e old new so_far line all split one was is made h =
    let from = subst (λ es. GoesOn c b time es old so_far all) split h in
    here more from.later from.history (subst (λ n. so_far ++ row_lines b (timed n (e ∷ more)) old.env from.later ≡ all) (sym (add-one time)) from.text)
  where
    moved : (more : List Event) (x : List ℤ) (later : List (List ℤ)) → Settled c (step c (state_of old.held old.rows) old.env e) x → HistoryFrom c (step c (state_of old.held old.rows) old.env e) more (x ∷ later)
        → so_far ++ row_lines b (timed (time + 1) (e ∷ more)) old.env (x ∷ later) ≡ all → GoesOn c b (time + 1) more new (so_far ++ line) all
    moved more x later settled history text =
        let past = next_is c gone e old new x one was is settled in
        record {
          later = later;
          history =
              subst (λ st. HistoryFrom c st more (new.env ∷ later)) (sym past.state)
              (subst (λ y. HistoryFrom c (step c (state_of old.held old.rows) old.env e) more (y ∷ later)) (sym past.env) history);
          text =
              append_assoc so_far line (row_lines b (timed (suc (time + 1)) more) new.env later)
              ∙ ap (λ l. so_far ++ (l ++ row_lines b (timed (suc (time + 1)) more) new.env later)) made
              ∙ ap (λ y. so_far ++ (row_line b (record { time = time + 1; event = e }) old.env y ++ row_lines b (timed (suc (time + 1)) more) y later)) past.env
              ∙ text;
        }

    here : (more : List Event) (later : List (List ℤ)) → HistoryFrom c (state_of old.held old.rows) (e ∷ more) (old.env ∷ later)
        → so_far ++ row_lines b (timed (time + 1) (e ∷ more)) old.env later ≡ all → GoesOn c b (time + 1) more new (so_far ++ line) all
    here [] [] history text = absurd history.1
    here [] (x ∷ []) history text = moved [] x [] history.1 history.1 text
    here [] (x ∷ y ∷ later) history text = absurd history.1
    here (d ∷ more) [] history text = absurd history.1
    here (d ∷ more) (x ∷ later) history text = moved (d ∷ more) x later history.1.0 history.1 text

-- ---- what a file has of the rows

-- the rows so far are a front of them
pub rows_front : (name so_far all : List ℕ) (c : Circuit) (b : Board) (time : ℕ) (es : List Event) (s : Simulated) (old new : Seen) → new ≡ written name so_far old → GoesOn c b time es s so_far all
    → AddsFront (written name) all old new
rows_front name so_far all c b time es s old new is h = record {
  front = so_far;
  rest = row_lines b (timed (suc time) es) s.env h.later;
  whole = h.text;
  changed = is;
}

-- and so is what was written of one row more
pub row_front : (name so_far line all : List ℕ) (c : Circuit) (b : Board) (time : ℕ) (es : List Event) (s : Simulated) (old now new : Seen) → now ≡ written name so_far old
    → AddsFront (written name) line now new → GoesOn c b time es s (so_far ++ line) all → AddsFront (written name) all old new
row_front name so_far line all c b time es s old now new was added h =
    let front : AddsFront (written name) line (written name so_far old) new = subst (λ (x : Seen). AddsFront (written name) line x new) was added in
    subst (λ (t : List ℕ). AddsFront (written name) t old new) h.text
    (AddsFront-before (row_lines b (timed (suc time) es) s.env h.later) (AddsFront-behind name so_far old front))

-- where no event is to come they are all of them
pub rows_whole : (so_far all : List ℕ) (c : Circuit) (b : Board) (time : ℕ) (es : List Event) (s : Simulated) → es ≡ [] → GoesOn c b time es s so_far all → so_far ≡ all
rows_whole so_far all c b time es s none h =
    sym (append-nil so_far) ∙ ap (λ xs. so_far ++ row_lines b (timed (suc time) xs) s.env h.later) (sym none) ∙ h.text

-- ---- the whole

-- behind the first line come those of the rows
pub front_text-rows : (b : Board) (rows : List Row) (first : List ℤ) (envs : List (List ℤ)) → front_text b [] (first ∷ []) ++ row_lines b rows first envs ≡ front_text b rows (first ∷ envs)
unfolding front_text
front_text-rows b rows first envs =
    let columns = flat_map column_line b.columns in
    let line = first_line b first in
    let lines = row_lines b rows first envs in
    append_assoc head_line (columns ++ (line ++ [])) lines
    ∙ ap (λ (x : List ℕ). head_line ++ x) (append_assoc columns (line ++ []) lines)
    ∙ ap (λ (x : List ℕ). head_line ++ (columns ++ x)) (append_assoc line [] lines)

-- and behind these the last one
pub front_text-end : (b : Board) (rows : List Row) (first : List ℤ) (envs : List (List ℤ)) (end : End) → front_text b rows (first ∷ envs) ++ end_line end ≡ trace_text b rows (first ∷ envs) end
unfolding front_text trace_text
front_text-end b rows first envs end =
    let columns = flat_map column_line b.columns in
    let lines = first_line b first ++ row_lines b rows first envs in
    append_assoc head_line (columns ++ lines) (end_line end)
    ∙ ap (λ (x : List ℕ). head_line ++ x) (append_assoc columns lines (end_line end))

-- the trace in the order in which it is written
pub trace_text-parts : (b : Board) (rows : List Row) (first : List ℤ) (envs : List (List ℤ)) (end : End) → (front_text b [] (first ∷ []) ++ row_lines b rows first envs) ++ end_line end ≡ trace_text b rows (first ∷ envs) end
trace_text-parts b rows first envs end = ap (λ (t : List ℕ). t ++ end_line end) (front_text-rows b rows first envs) ∙ front_text-end b rows first envs end

pub front_text-order : (b : Board) (first : List ℤ) → head_line ++ (flat_map column_line b.columns ++ (first_line b first ++ [])) ≡ front_text b [] (first ∷ [])
unfolding front_text
front_text-order b first = refl

-- a front of a front is one of the whole
pub WritesFront-more : (name front rest whole : List ℕ) (old new : Seen) → front ++ rest ≡ whole → WritesFront name front old new → WritesFront name whole old new
WritesFront-more name front rest whole old new e (inl h) = inl h
WritesFront-more name front rest whole old new e (inr h) = inr (subst (λ (t : List ℕ). AddsFront (with_file name) t old new) e (AddsFront-before rest h))

-- the text of the history is the trace
pub history_trace : (a : Accepted) (envs : List (List ℤ)) → IsFitting a → IsHistory a.ranked.design (events_of a) envs
    → IsTrace (trace_text a.board (rows_of a) envs (ending_of a)) a.ranked.design (rows_of a) (ending_of a)
history_trace a envs fits history = record {
  envs = envs;
  is_history = subst (λ (es : List Event). IsHistory a.ranked.design es envs) (sym (events_in-timed 1 (events_of a))) history;
  is_text = ap (λ (b : Board). trace_text b (rows_of a) envs (ending_of a)) fits.board;
}

-- an accepted design has a trace
pub record HasTrace (a : Accepted) : Type 0 where
  pub text : List ℕ
  pub is_trace : IsTrace text a.ranked.design (rows_of a) (ending_of a)

pub has_trace : (a : Accepted) → IsFitting a → HasOneHistory a.ranked.design (events_of a) → HasTrace a
has_trace a fits one = record {
  text = trace_text a.board (rows_of a) one.envs (ending_of a);
  is_trace = history_trace a one.envs fits (record { settles = one.settles; only = one.only });
}
