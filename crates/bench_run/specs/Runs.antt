-- The run of a file's simulator: which events come at which moments, and how it ends.
-- Source: Amaranth user guide 0.5, "Simulator"; the order of clocks and testbenches at a moment, the end of a run and its cost are this project's
-- own rules (docs/RULES.md).
use Rattle.std.specs.Prelude.{◌≡◌, ℕ, suc, ◌+◌, ◌-◌, ◌/◌, ◌^◌, ◌==◌, nat_lt, ⊤, ◌||◌, Bool, true, false, if◌then◌else◌, ℤ, List, [], ◌∷◌, ◌++◌, length, map, drop, slice_get, slice_set, Option, Some, None, option_map, min}
use Rattle.std.specs.List.{list_any, list_all, filter_map}
use Rattle.std.specs.Option.{option_map_or}
use Rattle.amh_host.specs.declared.place.Place.{Place}
use Rattle.shape_rules.specs.Operators.{is_zero}
use Rattle.design_ir.specs.declared.ids.DomainId.{DomainId}
use Rattle.design_ir.specs.declared.event.Event.{Event}
use Rattle.design_ir.specs.declared.event.Event.TheVariants.{Set, Edge}
use Rattle.design_ir.specs.Circuits.{Circuit, at, domain_named}
use Rattle.design_ir.specs.Circuits as Circuits
use Rattle.design_ir.specs.Histories.{Reaches}
use Rattle.design_ir.specs.Steps.{is_active, is_reset}
use Rattle.design_ir.specs.Values.{num, signal_form}
use Rattle.py_tree.specs.Steps.{Steps}
use Rattle.py_heap.specs.Heaps.{Made, seen}
use Rattle.py_values.specs.declared.val.Hw.{Hw}
use Rattle.py_values.specs.declared.val.Val.{Val}
use Rattle.py_values.specs.declared.val.Val.TheVariants as val
use Rattle.py_frames.specs.declared.request.Answer.{Answer}
use Rattle.py_frames.specs.declared.request.Answer.TheVariants as answer
use Rattle.py_frames.specs.declared.request.Cause.TheVariants.{Raised, Spent}
use Rattle.py_frames.specs.declared.request.Request.{Request}
use Rattle.py_frames.specs.declared.request.Stop.{Stop}
use Rattle.py_frames.specs.declared.state.State.{State}
use Rattle.py_frames.specs.declared.state.Halt.TheVariants as halt
use Rattle.py_frames.specs.Doing.{Outcome, Done, Halts}
use Rattle.py_frames.specs.Frames.{stops_as}
use Rattle.py_machine.specs.Starts.{ask_bench}
use Rattle.calendar.specs.declared.clock.Clock.{Clock}
use Rattle.calendar.specs.Due.{due_domains}
use Rattle.calendar.specs.Moments.{IsNext}
use Rattle.elab_store.specs.declared.kept.BenchPart.TheVariants as part
use Rattle.elab_store.specs.declared.kept.Kept.TheVariants as kept
use Rattle.elab_store.specs.declared.simulation.ClockCall.{ClockCall}
use Rattle.elab_store.specs.declared.simulation.RunEnd.{RunEnd}
use Rattle.elab_store.specs.declared.simulation.RunEnd.TheVariants.{WithTestbenches, Until}
use Rattle.elab_store.specs.declared.simulation.Sample.{Sample}
use Rattle.elab_store.specs.declared.simulation.Sample.TheVariants as sample
use Rattle.elab_store.specs.declared.simulation.Testbench.{Testbench as CodeTestbench}
use Rattle.elab_store.specs.declared.simulation.Tick.{Tick}
use Rattle.elab_store.specs.declared.simulation.TickEnd.{TickEnd}
use Rattle.elab_store.specs.declared.simulation.TickEnd.TheVariants as end
use Rattle.elab_store.specs.declared.simulation.Wait.{Wait}
use Rattle.elab_store.specs.declared.simulation.Wait.TheVariants as wait
use Rattle.elab_store.specs.Stores.{Held, kept_given}
use Rattle.elab_eval.specs.Elaborates.{Found}
use Rattle.elab_eval.specs.Reaches.{world}
use Rattle.bench_acts.specs.declared.serving.Served.{Served}
use Rattle.bench_acts.specs.declared.serving.Served.TheVariants as asked
use Rattle.bench_acts.specs.Context.{Serving, shown, ticks_at}
use Rattle.bench_acts.specs.Serving.{bench_served}
use Rattle.play_text.specs.Trace.{Row, events_in}
use Rattle.bench_run.specs.declared.testbench.Stand.{Stand}
use Rattle.bench_run.specs.declared.testbench.Stand.TheVariants as stand
use Rattle.bench_run.specs.Setting.{number_with}

-- ---- testbenches

-- a testbench with all answers that it was given and the units that it used for them, and where it stands: it goes on by an answer, waits for
-- ticks or for a moment, or has ended
pub record Testbench : Type 0 where
  pub callee : Val
  pub background : Bool
  pub given : List Answer
  pub used : ℕ
  pub stand : Stand

-- ---- what does not change in a run

pub record Run : Type 0 where
  pub program : Steps
  pub frozen : Made
  pub ctx : Hw
  -- the design before the run; what it is at a point has the pool of what is held there
  pub design : Circuit
  pub clocks : List Clock
  -- how the run ends, where the file has a run call
  pub end : Option RunEnd

-- ---- a point of a run

pub record Point : Type 0 where
  pub held : Held
  pub benches : List Testbench
  -- testbenches of this number and behind it have a turn in this round
  pub turn : ℕ
  -- the moment, once the first round is over
  pub now : Option ℕ
  -- the units that are left of the budget
  pub left : ℕ

-- how a run ends
pub data End : Type 0 where
  Over : End
  StopsAt : Stop → End

-- what comes next: another point, an event and the point behind it, or the end
pub data Next : Type 0 where
  Goes : Point → Next
  Happens : Row → Point → Next
  Ends : End → Next

abbrev pub time_of : Point → ℕ
time_of p = option_map_or (λ t. t) p.now 0

-- the design with the expressions that were made so far
abbrev pub design_at : Run → Point → Circuit
design_at x p = record x.design { pool = p.held.pool }

abbrev pub spent_at : Place → Stop
spent_at place = record { cause = Spent; place = place }

-- an event costs a unit before it takes place, and the unit with which the cost reaches the budget is not carried out
abbrev pub happens : Place → Event → Point → Next
happens place e p =
    if nat_lt 1 p.left then Happens (record { time = time_of p; event = e }) (record p { left = p.left - 1 }) else Ends (StopsAt (spent_at place))

-- a clock's unit has no line
abbrev pub file_start : Place
file_start = record { line = 1; col = 1 }

-- ---- the numbers of samples in an environment

abbrev pub number_at : Held → List ℤ → Sample → ℤ
number_at h env (sample.Value e r) = num h.pool env e.0
number_at h env (sample.Number n) = n

abbrev pub value_at : Held → List ℤ → Sample → Val
value_at h env (sample.Value e r) = shown h r (num h.pool env e.0)
value_at h env (sample.Number n) = val.Int n

-- ---- one testbench goes on

abbrev pub with_bench : ℕ → Testbench → Point → Point
with_bench i b p = record p { benches = slice_set p.benches i b }

-- where a testbench stands that waits: a delay whose moment is not below 2^63 raises
abbrev pub delayed : ℕ → Stand
delayed t = if nat_lt t (2 ^ 63) then stand.Until t else stand.Ready (answer.Refuse Raised)

abbrev pub count_of : TickEnd → ℕ
count_of (end.Times n) = n
count_of e = 0

abbrev pub waiting : ℕ → ℕ → Option Wait → Stand
waiting now k (Some (wait.Delay t)) = delayed (now + t)
waiting now k (Some (wait.Tick t)) = stand.Ticks k (count_of t.end)
waiting now k None = stand.Ready (answer.Refuse Raised)

-- what is asked at a place is done; `ctx.get` and `ctx.set` speak of the environment now
abbrev pub asked_done : Run → List ℤ → ℕ → Testbench → Place → Served → Point → Next
asked_done x env i b place (asked.Answer a) p = Goes (with_bench i (record b { stand = stand.Ready a }) p)
asked_done x env i b place (asked.Get y) p = Goes (with_bench i (record b { stand = stand.Ready (answer.Give (value_at p.held env y)) }) p)
asked_done x env i b place (asked.Set bits n) p = happens place (Set bits.sig (number_with (signal_form x.design.pool.signals bits.sig.0) bits (at env bits.sig.0) n)) (with_bench i (record b { stand = stand.Ready (answer.Give val.None) }) p)
asked_done x env i b place (asked.Wait k) p = Goes (with_bench i (record b { stand = waiting (time_of p) k (ticks_at p.held k) }) p)

abbrev pub served : Run → List ℤ → ℕ → Testbench → Place → Serving → Point → Next
served x env i b place s p = asked_done x env i b place s.served (record p { held = s.held })

-- what a testbench comes to with one answer more, over what it used before and so many units that are left
abbrev pub outcome_of : Run → Testbench → Answer → ℕ → Outcome
outcome_of x b a left = ask_bench x.program x.frozen b.callee x.ctx (world (b.used + left) (b.given ++ a ∷ []))

-- the testbench and the point behind an answer, where so many units were used in all
abbrev pub bench_behind : Answer → ℕ → Testbench → Testbench
bench_behind a used b = record b { given = b.given ++ a ∷ []; used = used; stand = stand.Ended }

abbrev pub point_behind : ℕ → ℕ → Testbench → Point → Point
point_behind i used b p = record p { turn = i; left = b.used + p.left - used }

abbrev pub asks : Run → List ℤ → ℕ → Testbench → Request → State → Point → Next
asks x env i b r s q = served x env i b r.place (bench_served (seen x.frozen s.heap) (design_at x q) r q.held) q

abbrev pub ends_with : Option (Stop × ℕ) → Next
ends_with None = Ends Over
ends_with (Some w) = Ends (StopsAt w.0)

-- it ends, it asks, or it stops
abbrev pub gone_on : Run → List ℤ → ℕ → Testbench → Answer → Outcome → Point → Next
gone_on x env i b a (Done got s) p = Goes (with_bench i (bench_behind a s.used b) (point_behind i s.used b p))
gone_on x env i b a (Halts (halt.Asks r) s) p = asks x env i (bench_behind a s.used b) r s (point_behind i s.used b p)
gone_on x env i b a o p = ends_with (stops_as o)

-- those that wait, and those that have ended, have no turn
abbrev pub is_ready : Stand → Bool
is_ready (stand.Ready a) = true
is_ready x = false

-- the first one that is ready, of a number and behind it
abbrev pub first_ready : ℕ → List Stand → Option ℕ
first_ready i [] = None
first_ready i (x ∷ xs) = if is_ready x then Some i else first_ready (suc i) xs

abbrev pub next_ready : ℕ → List Stand → Option ℕ
next_ready i xs = first_ready i (drop i xs)

abbrev pub stands_of : List Testbench → List Stand
stands_of bs = map (λ (b : Testbench). b.stand) bs

abbrev pub goes : Run → List ℤ → ℕ → Testbench → Stand → Point → Next
goes x env i b (stand.Ready a) p = gone_on x env i b a (outcome_of x b a p.left) p
goes x env i b s p = Ends Over

abbrev pub turned : Run → List ℤ → ℕ → Option Testbench → Point → Next
turned x env i (Some b) p = goes x env i b b.stand p
turned x env i None p = Ends Over

-- ---- a moment

-- waits for a moment are over
abbrev pub woken : ℕ → Stand → Stand
woken t (stand.Until m) = if m == t then stand.Ready (answer.Give val.None) else stand.Until m
woken t x = x

abbrev pub woken_at : ℕ → Testbench → Testbench
woken_at t b = record b { stand = woken t b.stand }

abbrev pub is_due : ℕ → Stand → Bool
is_due t (stand.Until m) = m == t
is_due t x = false

-- the samples of a tick
abbrev pub samples_of : Held → List ℤ → Tick → List Val
samples_of h env t = map (value_at h env) t.samples

-- what a tick brings at the active edge of its domain, where the reset is this, before the event: counted ticks and a condition raise under it
abbrev pub tick_stand : Held → List ℤ → ℕ → ℕ → Tick → Bool → TickEnd → Stand
tick_stand h env k left t reset end.Once = stand.Ready (answer.GiveList (val.Bool true ∷ val.Bool reset ∷ samples_of h env t))
tick_stand h env k left t true (end.Times n) = stand.Ready (answer.Refuse Raised)
tick_stand h env k left t false (end.Times n) = if nat_lt 1 left then stand.Ticks k (left - 1) else stand.Ready (answer.GiveList (samples_of h env t))
tick_stand h env k left t true (end.Until y) = stand.Ready (answer.Refuse Raised)
tick_stand h env k left t false (end.Until y) = if is_zero (number_at h env y) then stand.Ticks k left else stand.Ready (answer.GiveList (samples_of h env t))

abbrev pub wait_ticked : Circuit → Held → List ℤ → List DomainId → ℕ → ℕ → Option Wait → Stand
wait_ticked c h env toggled k left (Some (wait.Tick t)) = if is_active c env toggled t.domain.0 then tick_stand h env k left t (is_reset c env t.domain.0) t.end else stand.Ticks k left
wait_ticked c h env toggled k left w = stand.Ticks k left

abbrev pub stand_ticked : Circuit → Held → List ℤ → List DomainId → Stand → Stand
stand_ticked c h env toggled (stand.Ticks k left) = wait_ticked c h env toggled k left (ticks_at h k)
stand_ticked c h env toggled x = x

abbrev pub ticked : Circuit → Held → List ℤ → List DomainId → Testbench → Testbench
ticked c h env toggled b = record b { stand = stand_ticked c h env toggled b.stand }

-- the clocks of these domains toggle at once, where there are any; ticks sample what was before
abbrev pub toggles : Run → List ℤ → List DomainId → Point → Next
toggles x env [] p = Goes p
toggles x env (d ∷ ds) p =
    happens file_start (Edge (d ∷ ds)) (record p { benches = map (ticked (design_at x p) p.held env (d ∷ ds)) p.benches })

-- at a moment: delays are over, and clocks toggle
abbrev pub at_moment : Run → List ℤ → ℕ → Point → Next
at_moment x env t p =
    toggles x env (due_domains x.clocks (length x.design.domains) t) (record p { now = Some t; turn = 0; benches = map (woken_at t) p.benches })

-- ---- behind a round

abbrev pub has_ended : Stand → Bool
has_ended stand.Ended = true
has_ended x = false

abbrev pub is_over : Bool → Stand → Bool
is_over background x = background || has_ended x

-- the run may end behind this round
abbrev pub may_end : RunEnd → List Testbench → Bool
may_end WithTestbenches bs = list_all (λ (b : Testbench). is_over b.background b.stand) bs
may_end (Until t) bs = false

-- a moment that is behind the end of the run
abbrev pub is_behind_end : RunEnd → ℕ → Bool
is_behind_end WithTestbenches m = false
is_behind_end (Until t) m = nat_lt t m

-- the moment for which a testbench waits
abbrev pub moment_of : Stand → Option ℕ
moment_of (stand.Until t) = Some t
moment_of x = None

abbrev pub earlier : Option ℕ → Option ℕ → Option ℕ
earlier None b = b
earlier (Some a) None = Some a
earlier (Some a) (Some b) = Some (min a b)

abbrev pub earliest : Option ℕ → List Stand → Option ℕ
earliest m [] = m
earliest m (x ∷ xs) = earliest (earlier m (moment_of x)) xs

-- where the next toggle of a clock is this
abbrev pub moved_on : Run → List ℤ → RunEnd → Option ℕ → Point → Next
moved_on x env how None p = Ends Over
moved_on x env how (Some t) p = if is_behind_end how t then Ends Over else at_moment x env t p

-- a delay that is due now brings another round; a moment that is due in the first round comes behind it
abbrev pub is_due_again : Option ℕ → List Stand → Bool
is_due_again None xs = false
is_due_again (Some t) xs = list_any (is_due t) xs

abbrev pub round_over : Run → List ℤ → RunEnd → (toggle : Option ℕ) → Point → Next
round_over x env how toggle p =
    if may_end how p.benches then Ends Over
    else (if is_due_again p.now (stands_of p.benches) then Goes (record p { turn = 0; benches = map (woken_at (time_of p)) p.benches })
    else moved_on x env how (earliest toggle (stands_of p.benches)) p)

-- ---- a run, from point to point

-- the next testbench that is ready goes on, or the round is over
abbrev pub turn_of : Run → List ℤ → RunEnd → (toggle : Option ℕ) → Point → Option ℕ → Next
turn_of x env how toggle p (Some i) = turned x env i (slice_get p.benches i) p
turn_of x env how toggle p None = round_over x env how toggle p

abbrev pub ended_by : Run → List ℤ → (toggle : Option ℕ) → Point → Option RunEnd → Next
ended_by x env toggle p (Some how) = turn_of x env how toggle p (next_ready p.turn (stands_of p.benches))
ended_by x env toggle p None = Ends Over

-- what comes next in an environment, where the next toggle of a clock is this; without a run call nothing does
abbrev pub next_of : Run → List ℤ → (toggle : Option ℕ) → Point → Next
next_of x env toggle p = ended_by x env toggle p x.end

-- where a round is over, the next toggle of a clock is this
abbrev pub IsToggle : Run → Point → Option ℕ → Option ℕ → Type 0
IsToggle x p toggle (Some i) = ⊤
IsToggle x p toggle None = IsNext x.clocks p.now toggle

-- the environment that a design has behind these events, and no other
pub record HasEnv (c : Circuit) (events : List Event) (env : List ℤ) : Type 0 where
  pub state : Circuits.State
  pub reached : Reaches c events state env
  pub only : (other : Circuits.State) (others : List ℤ) → Reaches c events other others → others ≡ env

-- what comes next at a point, behind these rows: in the environment that the design then has, and by the next toggle of a clock
pub record Comes (x : Run) (rows : List Row) (p : Point) (next : Next) : Type 0 where
  pub env : List ℤ
  pub has : HasEnv x.design (events_in rows) env
  pub toggle : Option ℕ
  pub is_next : IsToggle x p toggle (next_ready p.turn (stands_of p.benches))
  pub is : next ≡ next_of x env toggle p

-- from the point before a run: the rows so far, and the point behind them
pub data Follows (x : Run) (first : Point) : List Row → Point → Type 0 where
  here : Follows x first [] first
  moves : (rows : List Row) (p q : Point) → Follows x first rows p → Comes x rows p (Goes q) → Follows x first rows q
  takes : (rows : List Row) (p q : Point) (r : Row) → Follows x first rows p → Comes x rows p (Happens r q) → Follows x first (rows ++ r ∷ []) q

-- the run has these rows, and ends so
pub record IsRun (x : Run) (first : Point) (rows : List Row) (end : End) : Type 0 where
  pub last : Point
  pub follows : Follows x first rows last
  pub ends : Comes x rows last (Ends end)

-- ---- the run of what a program was elaborated to

-- `ctx` is the first thing behind all others
abbrev pub held_before : Found → Held
held_before f = record { pool = f.circuit.pool; store = f.store }

abbrev pub first_held : Held → Held
first_held h = (kept_given (kept.OfBench part.Context) h).held

abbrev pub clock_of : Circuit → ClockCall → Option Clock
clock_of d c = option_map (λ (k : ℕ). record { domain = record { 0 = k }; half = c.period / 2; phase = c.phase }) (domain_named d c.domain)

abbrev pub clocks_of : Circuit → List ClockCall → List Clock
clocks_of d cs = filter_map (clock_of d) cs

abbrev pub run_of : Steps → Found → Run
run_of program f = record {
  program = program;
  frozen = f.frozen;
  ctx = record { 0 = length f.store.things };
  design = f.circuit;
  clocks = clocks_of f.circuit f.store.simulation.clocks;
  end = f.store.simulation.run_end;
}

-- testbenches in the order in which they were added
abbrev pub bench_of : CodeTestbench → Testbench
bench_of t = record { callee = val.Func t.function; background = t.background; given = []; used = 0; stand = stand.Ready answer.Begin }

abbrev pub first_point : Found → ℕ → Point
first_point f left = record { held = first_held (held_before f); benches = map bench_of f.store.simulation.testbenches; turn = 0; now = None; left = left }

-- the rows and the end of the run of what a program was elaborated to, with so many units left
abbrev pub RunsAs : Steps → Found → ℕ → List Row → End → Type 0
RunsAs program f left rows end = IsRun (run_of program f) (first_point f left) rows end
