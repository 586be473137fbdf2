-- What begins a machine: the body of a file, or a testbench over what a body made.
-- Source: Amaranth 0.5, Simulator, add_testbench; Python reference 8.9.1, Coroutine function definition; the place of a call that no
-- line of the file makes: own rule (docs/RULES.md).
use Rattle.std.specs.Prelude.{[], ◌∷◌, slice_get}
use Rattle.amh_host.specs.declared.place.Place.{Place}
use Rattle.py_tree.specs.Steps.{Steps}
use Rattle.py_heap.specs.Heaps.{Made, nothing}
use Rattle.py_values.specs.declared.val.Val.{Val}
use Rattle.py_values.specs.declared.val.Val.TheVariants as val
use Rattle.py_values.specs.declared.val.Hw.{Hw}
use Rattle.py_frames.specs.declared.request.Cause.TheVariants.{Raised}
use Rattle.py_frames.specs.declared.state.State.{State}
use Rattle.py_frames.specs.Async.{is_async}
use Rattle.py_frames.specs.Doing.{World, Outcome, Doing, Known, heap_seen, and_then, stop, choose}
use Rattle.py_frames.specs.Asking.{callee_place}
use Rattle.py_frames.specs.Statements.{run_all, known}
use Rattle.py_frames.specs.Whole.{ask_program, begun, body_ended, deepest, first_here, origin}

-- a file's body, or a call of a function with a thing
pub data Start : Type 0 where
  file_body : Start
  bench_call : Val → Hw → Start

-- ---- the body of a file

-- the file's body, and then its end
abbrev pub body_means : Known → Doing
body_means k = and_then (run_all k k.program) (body_ended k)

-- ---- a testbench

-- No line of the file makes the call: it stands where the function does, and what is no function of the file at the file's begin.
abbrev pub bench_place : Known → State → Val → Place
bench_place k s callee = callee_place (heap_seen k s) origin callee

-- An `async` function is called with the thing alone, as if it stood under `await`; its value is the end. What is no such function raises.
abbrev pub bench_called : Known → Val → Hw → Doing
bench_called k callee ctx = λ w s.
    choose (is_async k (heap_seen k s) callee)
    (k.call callee (val.Hw ctx ∷ []) [] (bench_place k s callee))
    (stop Raised (bench_place k s callee)) w s

-- nothing was made yet, but what is frozen
abbrev pub bench_state : State
bench_state = record { heap = nothing; here = first_here; used = 0; bound = 0; taken = 0 }

-- What a testbench comes to over what is frozen, by all answers and a budget; the first answer begins it.
abbrev pub ask_bench : Steps → Made → Val → Hw → World → Outcome
ask_bench program frozen callee ctx w = begun (bench_called (known program frozen deepest) callee ctx) (slice_get w.answers 0) w bench_state

-- ---- both

-- what a machine comes to, by what began it
abbrev pub ask_from : Start → Steps → Made → World → Outcome
ask_from file_body program frozen w = ask_program program w
ask_from (bench_call callee ctx) program frozen w = ask_bench program frozen callee ctx w
