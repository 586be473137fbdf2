-- The life of a machine: what it stands for after the answers that were given, and what the next answer brings.
use Rattle.std.specs.Prelude.{◌≡◌, ℕ, ◌+◌, ◌<◌, List, [], ◌∷◌, ◌++◌, length, Option, Some, None, ⊤}
use Rattle.amh_host.specs.declared.place.Place.{Place}
use Rattle.py_tree.specs.Steps.{Steps}
use Rattle.py_tree.specs.Programs.{steps_of}
use Rattle.py_heap.specs.Heaps.{Made, nothing}
use Rattle.py_values.specs.declared.val.Val.{Val}
use Rattle.py_values.specs.declared.val.Val.TheVariants as val
use Rattle.py_values.specs.declared.val.Hw.{Hw}
use Rattle.py_frames.specs.declared.request.Act.{Act}
use Rattle.py_frames.specs.declared.request.Answer.{Answer}
use Rattle.py_frames.specs.declared.request.Request.{Request}
use Rattle.py_frames.specs.declared.request.Stop.{Stop}
use Rattle.py_frames.specs.declared.request.Turn.{Turn}
use Rattle.py_frames.specs.declared.request.Turn.TheVariants as turn
use Rattle.py_frames.specs.declared.functions.Functions.{Functions}
use Rattle.py_frames.specs.declared.going.Going.{Going}
use Rattle.py_frames.specs.declared.state.State.{State}
use Rattle.py_frames.specs.declared.state.Halt.TheVariants as halt
use Rattle.py_frames.specs.declared.state.Got.{Got}
use Rattle.py_frames.specs.declared.state.Got.TheVariants.{Value, Bound, Through, Next, Broke, Continued, Returned}
use Rattle.py_machine.specs.declared.machine.Stage.{Stage}
use Rattle.py_machine.specs.declared.machine.Stage.TheVariants as stage
use Rattle.py_machine.specs.declared.machine.Machine.{Machine}
use Rattle.py_frames.specs.Doing.{World, Done, Halts, Doing, Known}
use Rattle.py_frames.specs.Asking.{request, answered, asked}
use Rattle.py_frames.specs.Statements.{known}
use Rattle.py_frames.specs.Frames.{finish, stops_as}
use Rattle.py_frames.specs.Tables.{IsTable}
use Rattle.py_frames.specs.Whole.{first_state}
use Rattle.py_machine.specs.Starts.{Start, file_body, bench_call, bench_state, ask_from}

-- the functions of a program, where they are known
abbrev pub AreOf : Steps → Option Functions → Type 0
AreOf program None = ⊤
AreOf program (Some f) = IsTable f × (steps_of f.program ≡ program)

-- a machine of a program
abbrev pub IsOf : Steps → Machine → Type 0
IsOf program m = AreOf program m.functions

-- a machine that is told its program by the first answer
abbrev pub IsOfAny : Machine → Type 0
IsOfAny m = (program : Steps) → IsOf program m

-- an answer is taken by the act that asked at a place
abbrev pub reply : Known → ℕ → Act → Place → Answer → Doing
reply k n act place a = answered k (asked n k act) act (request act [] [] place) a

abbrev pub next_taken : State → State
next_taken s = record s { taken = s.taken + 1 }

-- what a program that ended is worth
abbrev pub worth : Got → Val
worth (Value v) = v
worth (Bound names) = val.None
worth (Through v) = val.None
worth Next = val.None
worth Broke = val.None
worth Continued = val.None
worth (Returned v) = val.None

-- What a machine stands for where it stands so, after these answers: before the first, what begins it, a file's body with nothing before it or a
-- testbench; while it waits, what that comes to with each next answer, in every world that begins so and has more units than were used; and at
-- its end, that end.
abbrev pub StandsFrom : Start → Steps → Made → List Answer → Going → Stage → Type 0
StandsFrom start program frozen given g stage.Before =
    (given ≡ []) × (frozen ≡ nothing) × (g.frames ≡ []) × (g.state ≡ first_state) × (start ≡ file_body)
StandsFrom start program frozen given g (stage.BeforeBench callee ctx) =
    (given ≡ []) × (g.frames ≡ []) × (g.state ≡ bench_state) × (start ≡ bench_call callee ctx)
StandsFrom start program frozen given g (stage.Waiting act place n) =
    (g.state.taken ≡ length given)
    × ((w : World) (a : Answer) (more : List Answer) → g.state.used < w.budget → w.answers ≡ given ++ a ∷ more →
    ask_from start program frozen w ≡ finish program frozen g.state.here.room g.frames w (reply (known program frozen g.state.here.room) n act place a w (next_taken g.state)))
StandsFrom start program frozen given g (stage.Ended v) =
    (w : World) (more : List Answer) → g.state.used < w.budget → w.answers ≡ given ++ more →
    (got : Got) × (ask_from start program frozen w ≡ Done got g.state) × (v ≡ worth got)
StandsFrom start program frozen given g (stage.Stopped stop) = ⊤
StandsFrom start program frozen given g stage.NoMemory = ⊤

-- the world of a life so far, with its last answer, and so many units left
abbrev pub life : List Answer → Answer → ℕ → World
life given a budget = record { budget = budget; answers = given ++ a ∷ [] }

-- what is answered once it is over: the same again
abbrev pub again : Stage → Option Turn
again stage.Before = None
again (stage.BeforeBench callee ctx) = None
again (stage.Waiting act place n) = None
again (stage.Ended v) = Some (turn.Ended v)
again (stage.Stopped stop) = Some (turn.Stopped stop)
again stage.NoMemory = Some turn.NoMemory

-- A request is what it comes to by these answers. The machine then waits for one answer more, as many were taken as were given, and
-- what it used is below the budget.
pub record IsAskedFrom (start : Start) (program : Steps) (frozen : Made) (given : List Answer) (a : Answer) (r : Request) (g : Going) (behind : Stage) (budget : ℕ) : Type 0 where
  pub asks : ask_from start program frozen (life given a budget) ≡ Halts (halt.Asks r) g.state
  pub stands : StandsFrom start program frozen (given ++ a ∷ []) g behind
  pub waits : again behind ≡ None
  pub taken : g.state.taken ≡ length (given ++ a ∷ [])
  pub below : g.state.used < budget

-- It ends by these answers, worth this value, and what it used is below the budget. The machine tells the same again.
pub record IsEndedFrom (start : Start) (program : Steps) (frozen : Made) (given : List Answer) (a : Answer) (v : Val) (g : Going) (behind : Stage) (budget : ℕ) : Type 0 where
  pub told : behind ≡ stage.Ended v
  pub stands : StandsFrom start program frozen (given ++ a ∷ []) g behind
  pub ends : (got : Got) × (ask_from start program frozen (life given a budget) ≡ Done got g.state) × (v ≡ worth got)
  pub below : g.state.used < budget

-- It stops by these answers, at this cost, and the machine tells the same again.
pub record IsStoppedFrom (start : Start) (program : Steps) (frozen : Made) (given : List Answer) (a : Answer) (stop : Stop) (g : Going) (behind : Stage) (budget : ℕ) : Type 0 where
  pub told : behind ≡ stage.Stopped stop
  pub stops : stops_as (ask_from start program frozen (life given a budget)) ≡ Some (stop, g.state.used)

-- what an answer brings; of want of memory, that the same is told again
abbrev pub BringsFrom : Start → Steps → Made → List Answer → Answer → Turn → Going → Stage → ℕ → Type 0
BringsFrom start program frozen given a (turn.Asks r) g behind budget = IsAskedFrom start program frozen given a r g behind budget
BringsFrom start program frozen given a (turn.Ended v) g behind budget = IsEndedFrom start program frozen given a v g behind budget
BringsFrom start program frozen given a (turn.Stopped stop) g behind budget = IsStoppedFrom start program frozen given a stop g behind budget
BringsFrom start program frozen given a turn.NoMemory g behind budget = behind ≡ stage.NoMemory

-- Where a request waits and where the end came, what is used and what is left are together what they were.
abbrev pub KeepsBudget : Turn → ℕ → ℕ → Type 0
KeepsBudget (turn.Asks r) before behind = behind ≡ before
KeepsBudget (turn.Ended v) before behind = behind ≡ before
KeepsBudget (turn.Stopped stop) before behind = ⊤
KeepsBudget turn.NoMemory before behind = ⊤

-- what a call brings, by whether it is over: for all answers for which the machine stood
abbrev pub ResumedFrom : Start → Option Turn → Steps → Made → Answer → Turn → Machine → Machine → ℕ → Type 0
ResumedFrom start (Some same) program frozen a result before behind left = (result ≡ same) × (behind ≡ before)
ResumedFrom start None program frozen a result before behind left =
    (given : List Answer) → StandsFrom start program frozen given before.going before.stage
    → BringsFrom start program frozen given a result behind.going behind.stage (before.going.state.used + left)

-- ---- a program, which its file's body begins

abbrev pub StandsAs : Steps → Made → List Answer → Machine → Stage → Type 0
StandsAs program frozen given m at_stage = StandsFrom file_body program frozen given m.going at_stage

abbrev pub Stands : Steps → Made → List Answer → Machine → Type 0
Stands program frozen given m = StandsAs program frozen given m m.stage

abbrev pub IsAsked : Steps → Made → List Answer → Answer → Request → Machine → ℕ → Type 0
IsAsked program frozen given a r behind budget = IsAskedFrom file_body program frozen given a r behind.going behind.stage budget

abbrev pub IsEnded : Steps → Made → List Answer → Answer → Val → Machine → ℕ → Type 0
IsEnded program frozen given a v behind budget = IsEndedFrom file_body program frozen given a v behind.going behind.stage budget

abbrev pub IsStopped : Steps → List Answer → Answer → Stop → Machine → ℕ → Type 0
IsStopped program given a stop behind budget = IsStoppedFrom file_body program nothing given a stop behind.going behind.stage budget

abbrev pub Resumed : Option Turn → Steps → Made → Answer → Turn → Machine → Machine → ℕ → Type 0
Resumed over program frozen a result before behind left = ResumedFrom file_body over program frozen a result before behind left

-- ---- a testbench, which a call of a function with a thing begins

abbrev pub StandsForBench : Steps → Made → Val → Hw → List Answer → Machine → Type 0
StandsForBench program frozen callee ctx given m = StandsFrom (bench_call callee ctx) program frozen given m.going m.stage

-- before the first answer, with which its program comes
abbrev pub StandsBeforeBench : Made → Val → Hw → Machine → Type 0
StandsBeforeBench frozen callee ctx m = (program : Steps) → StandsForBench program frozen callee ctx [] m

abbrev pub BenchResumed : Option Turn → Steps → Made → Answer → Turn → Machine → Machine → ℕ → Type 0
BenchResumed over program frozen a result before behind left =
    (callee : Val) (ctx : Hw) → ResumedFrom (bench_call callee ctx) over program frozen a result before behind left
