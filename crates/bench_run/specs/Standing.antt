-- What a run stands for between two rows, and what its parts owe. (Internal, but for the last part: no rule of the language.)
use Rattle.std.specs.Prelude.{◌≡◌, ℕ, ◌+◌, ◌-◌, ◌*◌, nat_lt, if◌then◌else◌, ◌≤◌, ◌<◌, ◌^◌, ◌⊎◌, IsTrue, Bool, true, false, ⊤, ℤ, List, [], ◌∷◌, ◌++◌, length, map, slice_get, slice_set, Option, Some, None, IsSome, IfSome, Result, Ok, Err}
use Rattle.std.specs.List.{AllByRecursion, list_all, list_any}
use Rattle.std.specs.Option.{option_map_or}
use Rattle.lists.specs.declared.items.NoMemory.{NoMemory}
use Rattle.amh_host.specs.declared.place.Place.{Place}
use Rattle.design_ir.specs.declared.ids.DomainId.{DomainId}
use Rattle.design_ir.specs.declared.event.Event.{Event}
use Rattle.design_ir.specs.declared.event.Event.TheVariants.{Set}
use Rattle.design_ir.specs.declared.signal.Sig.{Sig}
use Rattle.design_ir.specs.Circuits.{Circuit, at, is_input, is_clock}
use Rattle.design_ir.specs.Designs.{IsDesign}
use Rattle.design_ir.specs.Histories.{Reaches}
use Rattle.design_ir.specs.Legal.{AllLegal, IsLegal}
use Rattle.design_ir.specs.PoolRules.{IsPool}
use Rattle.design_ir.specs.Values.{signal_form}
use Rattle.comb_graph.specs.Laws.{HasOneHistory}
use Rattle.fragment_laws.specs.Growth.{IsGrown}
use Rattle.delta_sim.specs.Standing.{IsSimOf, Stands, Tells, state_of}
use Rattle.py_tree.specs.Programs.{program_of}
use Rattle.py_heap.specs.Heaps.{Made}
use Rattle.py_values.specs.declared.val.Val.{Val}
use Rattle.py_values.specs.declared.val.Val.TheVariants as val
use Rattle.py_values.specs.declared.val.Hw.{Hw}
use Rattle.py_frames.specs.declared.request.Answer.{Answer}
use Rattle.py_frames.specs.declared.request.Answer.TheVariants as answer
use Rattle.py_frames.specs.declared.request.Cause.{Cause}
use Rattle.py_frames.specs.declared.request.Request.{Request}
use Rattle.py_frames.specs.declared.request.Turn.{Turn}
use Rattle.py_frames.specs.declared.state.Halt.TheVariants as halt
use Rattle.py_frames.specs.Doing.{Halts}
use Rattle.py_machine.specs.declared.machine.Stage.{Stage as MachineStage}
use Rattle.py_machine.specs.declared.machine.Stage.TheVariants as machine_stage
use Rattle.py_machine.specs.Lives.{IsOf, IsOfAny, StandsForBench, StandsBeforeBench, BenchResumed, again}
use Rattle.calendar.specs.Due.{AreWithin}
use Rattle.calendar.specs.declared.clock.Clock.{Clock}
use Rattle.calendar.specs.Moments.{AreClocks, IsMoment}
use Rattle.elab_store.specs.declared.simulation.RunEnd.{RunEnd}
use Rattle.elab_store.specs.declared.simulation.Testbench.{Testbench as CodeTestbench}
use Rattle.elab_store.specs.declared.simulation.RunEnd.TheVariants.{WithTestbenches, Until}
use Rattle.elab_store.specs.Held.{held_of}
use Rattle.elab_store.specs.Sound.{IsSample}
use Rattle.elab_store.specs.Simulations.{Simulation as CodeSimulation}
use Rattle.elab_store.specs.Stores.{Held, Stored}
use Rattle.bench_acts.specs.declared.serving.Bench.{Bench}
use Rattle.bench_acts.specs.declared.serving.Served.{Served}
use Rattle.bench_acts.specs.declared.serving.Served.TheVariants as served
use Rattle.bench_acts.specs.declared.targets.InputBits.{InputBits}
use Rattle.bench_acts.specs.Context.{ticks_at}
use Rattle.bench_acts.specs.Held.{IsBench}
use Rattle.play_text.specs.Trace.{Row, events_in}
use Rattle.bench_run.specs.declared.begin.Begun.{Begun}
use Rattle.bench_run.specs.declared.begin.Simulated.{Simulated as CodeSimulated}
use Rattle.bench_run.specs.declared.point.Point.{Point as CodePoint}
use Rattle.bench_run.specs.declared.run.Row.{Row as CodeRow}
use Rattle.bench_run.specs.declared.run.Run.{Run as CodeRun}
use Rattle.bench_run.specs.declared.run.RunTurn.{RunTurn}
use Rattle.bench_run.specs.declared.run.RunTurn.TheVariants as turn
use Rattle.bench_run.specs.declared.run.Stage.{Stage}
use Rattle.bench_run.specs.declared.run.Stage.TheVariants as stage
use Rattle.bench_run.specs.declared.setting.Setting.{Setting}
use Rattle.bench_run.specs.declared.testbench.Running.{Running}
use Rattle.bench_run.specs.declared.testbench.Stand.{Stand}
use Rattle.bench_run.specs.declared.testbench.Stand.TheVariants as stand
use Rattle.bench_run.specs.declared.turns.Step.{Step}
use Rattle.bench_run.specs.declared.turns.Step.TheVariants as step
use Rattle.bench_run.specs.Runs.{Testbench, Run, Point, Over, StopsAt, design_at, spent_at, HasEnv, Comes, at_moment, Follows, IsRun, is_over, has_ended, is_due, moment_of, woken, stand_ticked, next_ready, stands_of, outcome_of, bench_behind, point_behind, with_bench, value_at, waiting, clocks_of, first_held}
use Rattle.bench_run.specs.Setting.{number_with}

-- ---- testbenches of the code, as the definitions see them

abbrev pub stands_in : List Running → List Stand
stands_in ys = map (λ (y : Running). y.stand) ys

abbrev pub woken_in : ℕ → Running → Running
woken_in t y = record y { stand = woken t y.stand }

abbrev pub ticked_in : Circuit → Held → List ℤ → List DomainId → Running → Running
ticked_in c h env toggled y = record y { stand = stand_ticked c h env toggled y.stand }

abbrev pub all_over : RunEnd → List Running → Bool
all_over WithTestbenches ys = list_all (λ (y : Running). is_over y.background y.stand) ys
all_over (Until t) ys = false

-- a moment for which it waits is below 2^63
abbrev pub IsBelow : Running → Type 0
IsBelow y = IfSome (moment_of y.stand) (λ t. t < 2 ^ 63)

-- bits of an input that is no clock
pub record IsSettable (c : Circuit) (bits : InputBits) : Type 0 where
  pub there : bits.sig.0 < length c.pool.signals
  pub input : IsTrue (is_input c bits.sig.0)
  pub no_clock : is_clock c bits.sig.0 ≡ false
  pub some : 0 < (signal_form c.pool.signals bits.sig.0).width
  pub room : bits.low + bits.width ≤ (signal_form c.pool.signals bits.sig.0).width

-- ---- what holds of a run whatever it stands for

-- the machine is one of a testbench, which waits or is over
pub record IsLive (s : Setting) (y : Running) : Type 0 where
  pub of : IsOf (program_of s.program) y.machine
  pub callee : Val
  pub ctx : Hw
  pub given : List Answer
  pub stands : StandsForBench (program_of s.program) s.frozen callee ctx given y.machine
  pub waits : has_ended y.stand ≡ false → again y.machine.stage ≡ None

pub record IsSafe (s : Setting) (c : CodePoint) : Type 0 where
  pub bench : IsBench c.bench
  pub sim : IsSimOf c.bench.design c.sim
  pub live : AllByRecursion (IsLive s) c.testbenches.items
  pub below : AllByRecursion IsBelow c.testbenches.items
  pub clocks : AreClocks s.clocks.items
  pub within : AreWithin (length c.bench.design.domains) s.clocks.items
  pub now : IfSome c.now (λ t. t < 2 ^ 63)
  pub units : 0 < c.left.left

-- ---- what it stands for

pub record IsSettingOf (s : Setting) (x : Run) : Type 0 where
  pub program : program_of s.program ≡ x.program
  pub frozen : s.frozen ≡ x.frozen
  pub clocks : s.clocks.items ≡ x.clocks
  pub end : s.end ≡ x.end

pub record IsBenchOf (x : Run) (y : Running) (b : Testbench) : Type 0 where
  pub stands : StandsForBench x.program x.frozen b.callee x.ctx b.given y.machine
  pub used : y.machine.going.state.used ≡ b.used
  pub background : y.background ≡ b.background
  pub stand : y.stand ≡ b.stand

abbrev pub AreBenches : Run → List Running → List Testbench → Type 0
AreBenches x [] [] = ⊤
AreBenches x (y ∷ ys) (b ∷ bs) = IsBenchOf x y b × AreBenches x ys bs
AreBenches x [] (b ∷ bs) = ⊥
AreBenches x (y ∷ ys) [] = ⊥

-- the design of the run, its simulator and its testbenches are those of a point behind these rows
pub record IsLinked (s : Setting) (c : CodePoint) (x : Run) (rows : List Row) (p : Point) : Type 0 where
  pub setting : IsSettingOf s x
  pub pool : IsPool x.design.pool
  pub is_design : IsDesign x.design
  pub one : (events : List Event) → AllLegal x.design events → HasOneHistory x.design events
  pub held : held_of c.bench.held ≡ p.held
  pub design : c.bench.design ≡ design_at x p
  pub grown : IsGrown x.design c.bench.design
  pub reached : Reaches x.design (events_in rows) (state_of c.sim.held c.sim.rows) c.sim.env
  pub legal : AllLegal x.design (events_in rows)
  pub benches : AreBenches x c.testbenches.items p.benches
  pub turn : c.turn ≡ p.turn
  pub now : c.now ≡ p.now
  pub left : c.left.left ≡ p.left

-- the run has come to such a point
pub record IsAt (s : Setting) (c : CodePoint) (x : Run) (first : Point) (rows : List Row) : Type 0 where
  pub point : Point
  pub follows : Follows x first rows point
  pub linked : IsLinked s c x rows point

-- a testbench has taken an answer at a point, and asks this; what it asks is not done yet
pub record IsAsking (s : Setting) (c : CodePoint) (i : ℕ) (r : Request) (x : Run) (first : Point) (rows : List Row) : Type 0 where
  pub point : Point
  pub follows : Follows x first rows point
  pub ready : next_ready point.turn (stands_of point.benches) ≡ Some i
  pub bench : Testbench
  pub there : slice_get point.benches i ≡ Some bench
  pub taken : Answer
  pub stands : bench.stand ≡ stand.Ready taken
  pub running : Running
  pub now_there : slice_get c.testbenches.items i ≡ Some running
  pub asks : outcome_of x bench taken point.left ≡ Halts (halt.Asks r) running.machine.going.state
  pub linked : let used = running.machine.going.state.used in IsLinked s c x rows (with_bench i (bench_behind taken used bench) (point_behind i used bench point))

-- a testbench was refused: it is its turn, and nothing is owed of what is held
pub record IsRefused (s : Setting) (c : CodePoint) (i : ℕ) (why : Cause) (x : Run) (first : Point) (rows : List Row) : Type 0 where
  pub point : Point
  pub follows : Follows x first rows point
  pub setting : IsSettingOf s x
  pub ready : next_ready point.turn (stands_of point.benches) ≡ Some i
  pub bench : Testbench
  pub there : slice_get point.benches i ≡ Some bench
  pub stands : bench.stand ≡ stand.Ready (answer.Refuse why)
  pub running : Running
  pub now_there : slice_get c.testbenches.items i ≡ Some running
  pub is_bench : StandsForBench x.program x.frozen bench.callee x.ctx bench.given running.machine
  pub used : running.machine.going.state.used ≡ bench.used
  pub has : HasEnv x.design (events_in rows) c.sim.env
  pub left : c.left.left ≡ point.left
  pub end : IsSome x.end

-- a round is over behind which the next moment is this
pub record IsMoving (s : Setting) (c : CodePoint) (t : ℕ) (x : Run) (first : Point) (rows : List Row) : Type 0 where
  pub point : Point
  pub follows : Follows x first rows point
  pub linked : IsLinked s c x rows point
  pub comes : Comes x rows point (at_moment x c.sim.env t point)

abbrev pub row_at : CodePoint → Event → Row
row_at c e = record { time = option_map_or (λ t. t) c.now 0; event = e }

-- what is owed of what comes next, for one that the run stood for; want of memory may come at any time
abbrev pub Owed : Result Step NoMemory → Setting → CodePoint → Run → Point → List Row → Type 0
Owed (Ok step.Goes) s d x first rows = IsAt s d x first rows
Owed (Ok (step.Happens e)) s d x first rows = IsAt s d x first (rows ++ row_at d e ∷ [])
Owed (Ok step.Ends) s d x first rows = IsRun x first rows Over
Owed (Ok (step.Stops stop)) s d x first rows = IsRun x first rows (StopsAt stop)
Owed (Err e) s d x first rows = ⊤

-- where the run goes on it is safe
abbrev pub StaysSafe : Result Step NoMemory → Setting → CodePoint → Type 0
StaysSafe (Ok step.Goes) s d = IsSafe s d
StaysSafe (Ok (step.Happens e)) s d = IsSafe s d
StaysSafe r s d = ⊤

-- ---- a run between two rows

-- of so many rows behind the first one, where the first one was told
abbrev pub StandsAs : Stage → CodeRun → Run → Point → List Row → Type 0
StandsAs stage.Before r x first rows = (rows ≡ []) × IsAt r.setting r.point x first []
StandsAs stage.Goes r x first rows = IsAt r.setting r.point x first rows
StandsAs stage.Ended r x first rows = IsRun x first rows Over
StandsAs (stage.Stopped stop) r x first rows = IsRun x first rows (StopsAt stop)
StandsAs stage.NoMemory r x first rows = ⊤

abbrev pub StandsFor : CodeRun → Run → Point → List Row → Type 0
StandsFor r x first rows = StandsAs r.stage r x first rows

-- it can go on
abbrev pub IsGoing : Stage → CodeRun → Type 0
IsGoing stage.Before r = IsSafe r.setting r.point
IsGoing stage.Goes r = IsSafe r.setting r.point
IsGoing stage.Ended r = ⊤
IsGoing (stage.Stopped stop) r = ⊤
IsGoing stage.NoMemory r = ⊤

abbrev pub CanGoOn : CodeRun → Type 0
CanGoOn r = IsGoing r.stage r

-- the first row is told once, and it alone has no event; each other row is the next one of the run; behind a row the run goes on
abbrev pub RowTold : Stage → CodeRow → CodeRun → Run → Point → List Row → Type 0
RowTold stage.Before row r x first rows = (row ≡ record { time = 0; event = None }) × (r.stage ≡ stage.Goes) × StandsFor r x first rows
RowTold earlier row r x first rows = (e : Event) × (row.event ≡ Some e) × (r.stage ≡ stage.Goes) × StandsFor r x first (rows ++ record { time = row.time; event = e } ∷ [])

-- what a call tells, and what the run then stands for: a row, or its end, with which it stays; want of memory may come at any time, and stays
abbrev pub NextRow : RunTurn → Stage → CodeRun → Run → Point → List Row → Type 0
NextRow (turn.Row row) earlier r x first rows = RowTold earlier row r x first rows
NextRow turn.Ended earlier r x first rows = (r.stage ≡ stage.Ended) × IsRun x first rows Over
NextRow (turn.Stopped stop) earlier r x first rows = (r.stage ≡ stage.Stopped stop) × IsRun x first rows (StopsAt stop)
NextRow turn.NoMemory earlier r x first rows = r.stage ≡ stage.NoMemory

-- an event tells the signals that it moved, and the first row none
abbrev pub IsMoved : Option Event → CodeRun → CodeRun → Type 0
IsMoved None old new = new.point.sim ≡ old.point.sim
IsMoved (Some e) old new = Tells new.point.bench.design old.point.sim new.point.sim

abbrev pub RowMoves : RunTurn → CodeRun → CodeRun → Type 0
RowMoves (turn.Row row) old new = IsMoved row.event old new
RowMoves t old new = ⊤

-- ---- each run comes to its next row: testbenches take answers, of which there are fewer than 2^64 each

abbrev pub left_by : Option Turn → ℕ → ℕ
left_by None taken = 2 ^ 64 - taken
left_by (Some over) taken = 0

abbrev pub answers_left : Running → ℕ
answers_left y = left_by (again y.machine.stage) y.machine.going.state.taken

abbrev pub all_left : List Running → ℕ
all_left [] = 0
all_left (y ∷ ys) = answers_left y + all_left ys

-- a round that is over is not behind one in which a testbench is ready
abbrev pub round_left : Option ℕ → ℕ
round_left None = 1
round_left (Some i) = 0

abbrev pub to_go : CodePoint → ℕ
to_go c = 2 * all_left c.testbenches.items + round_left (next_ready c.turn (stands_in c.testbenches.items))

abbrev pub IsCloser : Result Step NoMemory → CodePoint → CodePoint → Type 0
IsCloser (Ok step.Goes) c d = to_go d < to_go c
IsCloser r c d = ⊤

-- only an event moves the simulator
abbrev pub StepMoves : Result Step NoMemory → CodePoint → CodePoint → Type 0
StepMoves (Ok step.Goes) c d = d.sim ≡ c.sim
StepMoves (Ok (step.Happens e)) c d = Tells d.bench.design c.sim d.sim
StepMoves r c d = ⊤

-- where it goes on or an event takes place
abbrev pub IfGoes : Result Step NoMemory → Type 0 → Type 0
IfGoes (Ok step.Goes) t = t
IfGoes r t = ⊤

abbrev pub IsStop : Step → Type 0
IsStop (step.Stops stop) = ⊤
IsStop s = ⊥

-- its machine has asked, and waits for the answer
abbrev pub IsWaitingAt : MachineStage → Type 0
IsWaitingAt (machine_stage.Waiting act place rounds) = ⊤
IsWaitingAt machine_stage.Before = ⊥
IsWaitingAt (machine_stage.BeforeBench callee ctx) = ⊥
IsWaitingAt (machine_stage.Ended v) = ⊥
IsWaitingAt (machine_stage.Stopped stop) = ⊥
IsWaitingAt machine_stage.NoMemory = ⊥

abbrev pub IsWaiting : Running → Type 0
IsWaiting y = IsWaitingAt y.machine.stage

-- a clock or a delay is due
abbrev pub IsDue : ℕ → List Clock → List Running → Type 0
IsDue t clocks ys = IsMoment clocks t ⊎ (list_any (is_due t) (stands_in ys) ≡ true)

-- what an event comes to within the budget
abbrev pub happened : ℕ → Place → Event → Step
happened left place e = if nat_lt 1 left then step.Happens e else step.Stops (spent_at place)

-- the design has had it where it took place
abbrev pub IsBehind : Step → Event → CodePoint → CodePoint → Type 0
IsBehind (step.Happens d) e old new =
    (new ≡ record old { sim = new.sim; left = record { left = old.left.left - 1 } })
    × IsSimOf old.bench.design new.sim
    × ((events : List Event) → Stands old.bench.design events old.sim → Stands old.bench.design (events ++ e ∷ []) new.sim)
    × Tells old.bench.design old.sim new.sim
IsBehind s e old new = ⊤

-- ---- a testbench's turn

-- a testbench took the answer by which it went on, where so many units were left before, and so many behind it
pub record TakesAnswer (s : Setting) (y z : Running) (before behind : ℕ) (t : Turn) : Type 0 where
  pub taken : Answer
  pub stands : y.stand ≡ stand.Ready taken
  pub waits : again y.machine.stage ≡ None
  pub resumed : BenchResumed (again y.machine.stage) (program_of s.program) s.frozen taken t y.machine z.machine before
  pub of : IsOf (program_of s.program) z.machine
  pub background : z.background ≡ y.background
  pub ended : z.stand ≡ stand.Ended
  pub left : behind ≡ y.machine.going.state.used + before - z.machine.going.state.used
  pub few : y.machine.going.state.taken < 2 ^ 64
  pub few_behind : z.machine.going.state.taken < 2 ^ 64

-- why it is refused, where it is
abbrev pub refusal : Served → Option Cause
refusal (served.Answer (answer.Refuse why)) = Some why
refusal s = None

-- where it stands behind what was served
abbrev pub stand_behind : Held → List ℤ → (now : ℕ) → Served → Stand
stand_behind h env now (served.Answer a) = stand.Ready a
stand_behind h env now (served.Get x) = stand.Ready (answer.Give (value_at h env x))
stand_behind h env now (served.Set bits n) = stand.Ready (answer.Give val.None)
stand_behind h env now (served.Wait k) = waiting now k (ticks_at h k)

-- the event of what was served, where it is one
abbrev pub event_served : List Sig → List ℤ → Served → Option Event
event_served signals env (served.Set bits n) = Some (Set bits.sig (number_with (signal_form signals bits.sig.0) bits (at env bits.sig.0) n))
event_served signals env s = None

-- what is read stands in the pool, and what is set may be set
abbrev pub MayBeDone : Circuit → Served → Type 0
MayBeDone c (served.Get x) = IsSample c.pool x
MayBeDone c (served.Set bits n) = IsSettable c bits
MayBeDone c s = ⊤

-- the point where this testbench stands so
pub record HasStand (i : ℕ) (y : Running) (w : Stand) (old new : CodePoint) : Type 0 where
  pub bench : new.bench ≡ old.bench
  pub sim : new.sim ≡ old.sim
  pub benches : new.testbenches.items ≡ slice_set old.testbenches.items i (record y { stand = w })
  pub turn : new.turn ≡ old.turn
  pub now : new.now ≡ old.now
  pub left : new.left ≡ old.left

-- the event, if any, took place within the budget
abbrev pub IsEventDone : Step → Place → Option Event → CodePoint → CodePoint → Type 0
IsEventDone z place None old new = (z ≡ step.Goes) × (new ≡ old)
IsEventDone z place (Some e) old new = IsLegal old.bench.design e × (z ≡ happened old.left.left place e) × IsBehind z e old new

-- the testbench stands behind what was served, and then the event of it was done
pub record IsDone (z : Step) (i : ℕ) (place : Place) (s : Served) (old new : CodePoint) : Type 0 where
  pub running : Running
  pub there : slice_get old.testbenches.items i ≡ Some running
  pub stand : Stand
  pub stands : stand ≡ stand_behind (held_of old.bench.held) old.sim.env (option_map_or (λ t. t) old.now 0) s
  pub below : IfSome (moment_of stand) (λ t. t < 2 ^ 63)
  pub middle : CodePoint
  pub is_middle : HasStand i running stand old middle
  pub event : IsEventDone z place (event_served old.bench.design.pool.signals old.sim.env s) middle new

-- ---- before a run

-- a testbench of one that was added, before its first answer
pub record IsAnew (frozen : Made) (ctx : Hw) (t : CodeTestbench) (y : Running) : Type 0 where
  pub of : IsOfAny y.machine
  pub stands : StandsBeforeBench frozen (val.Func t.function) ctx y.machine
  pub before : y.machine.stage ≡ machine_stage.BeforeBench (val.Func t.function) ctx
  pub unused : y.machine.going.state.used ≡ 0
  pub background : y.background ≡ t.background
  pub stand : y.stand ≡ stand.Ready answer.Begin

abbrev pub AreAnew : Made → Hw → List CodeTestbench → List Running → Type 0
AreAnew frozen ctx [] [] = ⊤
AreAnew frozen ctx (t ∷ ts) (y ∷ ys) = IsAnew frozen ctx t y × AreAnew frozen ctx ts ys
AreAnew frozen ctx [] (y ∷ ys) = ⊥
AreAnew frozen ctx (t ∷ ts) [] = ⊥

-- the design and the testbenches over what elaboration holds, with `ctx` behind it
pub record AreBenchesOf (d : Circuit) (st : Stored) (frozen : Made) (b : Bench) (ys : List Running) : Type 0 where
  pub bench : IsBench b
  pub design : b.design ≡ d
  pub held : held_of b.held ≡ first_held (record { pool = d.pool; store = st })
  pub testbenches : AreAnew frozen (record { 0 = length st.things }) st.simulation.testbenches ys

-- the simulator of the design before any event, its clocks, and how the run ends
pub record IsSimulated (d : Circuit) (told : CodeSimulation) (s : CodeSimulated) : Type 0 where
  pub sim : Stands d [] s.sim
  pub clocks : s.clocks.items ≡ clocks_of d told.clocks
  pub are : AreClocks s.clocks.items
  pub within : AreWithin (length d.domains) s.clocks.items
  pub end : s.end ≡ told.run_end

-- both
pub record HasBegun (d : Circuit) (st : Stored) (frozen : Made) (b : Begun) : Type 0 where
  pub benches : AreBenchesOf d st frozen b.bench b.testbenches.items
  pub simulated : IsSimulated d st.simulation (record { sim = b.sim; clocks = b.clocks; end = b.end })

-- ---- what rows cost

abbrev pub all_used : List Running → ℕ
all_used [] = 0
all_used (y ∷ ys) = y.machine.going.state.used + all_used ys

-- the units that are left, and those that testbenches used
abbrev pub units_of : CodePoint → ℕ
units_of c = c.left.left + all_used c.testbenches.items

-- a step that goes on costs nothing, and an event a unit
abbrev pub StepCosts : Result Step NoMemory → CodePoint → CodePoint → Type 0
StepCosts (Ok step.Goes) c d = units_of d ≡ units_of c
StepCosts (Ok (step.Happens e)) c d = units_of d + 1 ≡ units_of c
StepCosts r c d = ⊤

-- the first row costs nothing, and each event a unit
abbrev pub CostsRow : Option Event → CodeRun → CodeRun → Type 0
CostsRow None old new = units_of new.point ≡ units_of old.point
CostsRow (Some e) old new = units_of new.point < units_of old.point

abbrev pub RowCosts : RunTurn → CodeRun → CodeRun → Type 0
RowCosts (turn.Row row) old new = CostsRow row.event old new
RowCosts t old new = ⊤
