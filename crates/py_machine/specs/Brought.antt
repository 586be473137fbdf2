-- What an answer brings: what a machine does with it, and how it is told.
use Rattle.std.specs.Prelude.{◌≡◌, zero, suc, ◌+◌, Result, Ok, Err, ⊤}
use Rattle.py_frames.specs.declared.request.Answer.{Answer}
use Rattle.py_frames.specs.declared.request.Cause.TheVariants as cause
use Rattle.py_frames.specs.declared.request.Turn.{Turn}
use Rattle.py_frames.specs.declared.request.Turn.TheVariants as turn
use Rattle.py_frames.specs.declared.state.Halt.{Halt}
use Rattle.py_frames.specs.declared.state.Halt.TheVariants as halt
use Rattle.py_frames.specs.declared.frame.Now.{Now}
use Rattle.py_frames.specs.declared.frame.Now.TheVariants.{Begin, Run, Came, Waits}
use Rattle.py_frames.specs.declared.going.Going.{Going}
use Rattle.py_machine.specs.declared.machine.Stage.{Stage}
use Rattle.py_machine.specs.declared.machine.Stage.TheVariants as stage
use Rattle.py_frames.specs.Doing.{Doing, Known}
use Rattle.py_machine.specs.Starts.{body_means, bench_called}
use Rattle.py_machine.specs.Lives.{reply, next_taken, worth}

-- the first answer begins the body or the testbench, and a later one goes to the request that waits
abbrev pub meant_by : Stage → Answer → Known → Doing
meant_by stage.Before a k = body_means k
meant_by (stage.BeforeBench callee ctx) a k = bench_called k callee ctx
meant_by (stage.Waiting act place n) a k = reply k n act place a
meant_by (stage.Ended v) a k = body_means k
meant_by (stage.Stopped stop) a k = body_means k
meant_by stage.NoMemory a k = body_means k

-- one answer more is taken
abbrev pub took : Going → Going
took g = record g { state = next_taken g.state }

-- how it is told that turns came to rest
abbrev pub turn_of : Result Now Halt → Turn
turn_of (Ok (Waits r act zero)) = turn.Stopped (record { cause = cause.Spent; place = r.place })
turn_of (Ok (Waits r act (suc n))) = turn.Asks r
turn_of (Ok (Came got)) = turn.Ended (worth got)
turn_of (Ok (Begin e purpose)) = turn.NoMemory
turn_of (Ok (Run s)) = turn.NoMemory
turn_of (Err (halt.Stopped stop)) = turn.Stopped stop
turn_of (Err (halt.Asks r)) = turn.NoMemory
turn_of (Err halt.NoMemory) = turn.NoMemory

-- where a machine stands then
abbrev pub stage_of : Result Now Halt → Stage
stage_of (Ok (Waits r act zero)) = stage.Stopped (record { cause = cause.Spent; place = r.place })
stage_of (Ok (Waits r act (suc n))) = stage.Waiting act r.place n
stage_of (Ok (Came got)) = stage.Ended (worth got)
stage_of (Ok (Begin e purpose)) = stage.NoMemory
stage_of (Ok (Run s)) = stage.NoMemory
stage_of (Err (halt.Stopped stop)) = stage.Stopped stop
stage_of (Err (halt.Asks r)) = stage.NoMemory
stage_of (Err halt.NoMemory) = stage.NoMemory

-- turns take no answer
abbrev pub KeepsTaken : Result Now Halt → Going → Going → Type 0
KeepsTaken (Ok now) before behind = behind.state.taken ≡ before.state.taken + 1
KeepsTaken (Err h) before behind = ⊤
