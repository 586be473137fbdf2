-- A list of frames, and what a turn of the machine owes.
-- Internal: no rule of the language.
use Rattle.std.specs.Prelude.{◌≡◌, ℕ, ◌<◌, List, [], ◌∷◌, Option, Some, None, Result, Ok, Err, ⊤}
use Rattle.amh_host.specs.declared.place.Place.{Place}
use Rattle.py_tree.specs.Seen.{tree}
use Rattle.py_tree.specs.Programs.{step_of, steps_of}
use Rattle.py_tree.specs.Steps.{Steps}
use Rattle.py_values.specs.declared.val.Val.{Val}
use Rattle.py_values.specs.declared.val.ValueStop.{ValueStop}
use Rattle.py_values.specs.declared.val.ValueStop.TheVariants as refusal
use Rattle.py_heap.specs.Heaps.{Made}
use Rattle.py_frames.specs.declared.request.Cause.TheVariants as cause
use Rattle.py_frames.specs.declared.request.Stop.{Stop}
use Rattle.py_frames.specs.declared.state.State.{State}
use Rattle.py_frames.specs.declared.state.Halt.{Halt}
use Rattle.py_frames.specs.declared.state.Halt.TheVariants.{Asks, Stopped, NoMemory}
use Rattle.py_frames.specs.declared.state.Got.{Got}
use Rattle.py_frames.specs.declared.state.Got.TheVariants.{Value}
use Rattle.py_frames.specs.declared.frame.Frame.{Frame}
use Rattle.py_frames.specs.declared.frame.Frame.TheVariants as frame
use Rattle.py_frames.specs.declared.frame.CallFrame.{CallFrame}
use Rattle.py_frames.specs.declared.frame.CallFrame.TheVariants as call
use Rattle.py_frames.specs.declared.frame.DefFrame.{DefFrame}
use Rattle.py_frames.specs.declared.frame.DefFrame.TheVariants as def
use Rattle.py_frames.specs.declared.frame.Now.{Now}
use Rattle.py_frames.specs.declared.frame.Now.TheVariants.{Begin, Run, Came, Waits}
use Rattle.py_frames.specs.declared.going.Going.{Going}
use Rattle.py_frames.specs.declared.functions.Functions.{Functions}
use Rattle.py_frames.specs.Doing.{World, Outcome, Done, Halts, Doing, Known, after, on_value, came}
use Rattle.py_frames.specs.Asking.{asked}
use Rattle.py_frames.specs.Expressions.{value_of}
use Rattle.py_frames.specs.Statements.{run, known}
use Rattle.py_frames.specs.Expr_frames.{expr_goes}
use Rattle.py_frames.specs.Call_frames.{call_goes}
use Rattle.py_frames.specs.Walk_frames.{walk_goes}
use Rattle.py_frames.specs.Stmt_frames.{stmt_goes}
use Rattle.py_frames.specs.Def_frames.{def_goes}

-- how a frame goes on with what it waits for
abbrev pub goes_on : Known → Frame → Got → Doing
goes_on k (frame.Expr f) got = on_value got (expr_goes k f)
goes_on k (frame.Call f) got = call_goes k f got
goes_on k (frame.Walk f) got = walk_goes k f got
goes_on k (frame.Stmt f) got = stmt_goes k f got
goes_on k (frame.Def f) got = def_goes k f got

-- how many calls may still stand in one another under a frame
abbrev pub call_room : ℕ → CallFrame → ℕ
call_room room (call.CallEnd outer) = outer.room
call_room room f = room

abbrev pub def_room : ℕ → DefFrame → ℕ
def_room room (def.ClassBody s base keywords outer) = outer.room
def_room room f = room

abbrev pub room_under : ℕ → Frame → ℕ
room_under room (frame.Call f) = call_room room f
room_under room (frame.Expr f) = room
room_under room (frame.Walk f) = room
room_under room (frame.Stmt f) = room
room_under room (frame.Def f) = def_room room f

-- what comes out of all frames
abbrev pub finish : Steps → Made → ℕ → List Frame → World → Outcome → Outcome
finish program frozen room [] w o = o
finish program frozen room (f ∷ fs) w o =
    finish program frozen (room_under room f) fs w (after o (λ got. goes_on (known program frozen (room_under room f)) f got w))

-- what the machine does next
abbrev pub now_means : Known → Now → Doing
now_means k (Begin e purpose) = value_of k purpose (tree e)
now_means k (Run s) = run k (step_of s)
now_means k (Came got) = came got
now_means k (Waits r act rounds) = asked rounds k act r

-- what the heap gave, as the machine tells it
abbrev pub told : Result Val ValueStop → Place → Result Now Halt
told (Ok v) place = Ok (Came (Value v))
told (Err refusal.NoMemory) place = Err NoMemory
told (Err refusal.Raised) place = Err (Stopped (record { cause = cause.Raised; place = place }))
told (Err refusal.Width) place = Err (Stopped (record { cause = cause.Width; place = place }))
told (Err refusal.Limit) place = Err (Stopped (record { cause = cause.Limit; place = place }))
told (Err refusal.Spent) place = Err (Stopped (record { cause = cause.Spent; place = place }))

-- why and where an outcome stops, and at what cost
abbrev pub stops_as : Outcome → Option (Stop × ℕ)
stops_as (Halts (Stopped stop) s) = Some (stop, s.used)
stops_as (Halts (Asks r) s) = None
stops_as (Halts NoMemory s) = None
stops_as (Done got s) = None

-- A turn leaves what is to come out as it was, in each world with more units than were used; and where it stops, that
-- is what comes out, under this budget, at this cost.
abbrev pub Moves : Steps → Made → Result Now Halt → List Frame → State → ℕ → (World → Outcome) → Type 0
Moves program frozen (Ok now) frames s budget total =
    (w : World) → s.used < w.budget → total w ≡ finish program frozen s.here.room frames w (now_means (known program frozen s.here.room) now w s)
Moves program frozen (Err (Stopped stop)) frames s budget total = (w : World) → w.budget ≡ budget → stops_as (total w) ≡ Some (stop, s.used)
Moves program frozen (Err (Asks r)) frames s budget total = ⊥
Moves program frozen (Err NoMemory) frames s budget total = ⊤

-- The same of a part that the frames wait for: `meant` says what it is.
unfoldable pub GoesOn : Functions → Made → Result Now Halt → Going → Going → ℕ → (Known → Doing) → Type 0
GoesOn functions frozen result before behind budget meant =
    Moves (steps_of functions.program) frozen result behind.frames behind.state budget
    (λ w. finish (steps_of functions.program) frozen before.state.here.room before.frames w (meant (known (steps_of functions.program) frozen before.state.here.room) w before.state))

-- what a part means, and then what the frame that waits for it does
abbrev pub within : Frame → (Known → Doing) → Known → Doing
within f m k = λ w s. after (m k w s) (λ got. goes_on k f got w)

-- a frame under which as many calls may still stand in one another
abbrev pub KeepsRoom : Frame → ℕ → Type 0
KeepsRoom f room = room_under room f ≡ room
