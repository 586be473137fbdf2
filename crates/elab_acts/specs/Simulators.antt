-- `Simulator(x)` and its calls. (Amaranth user guide 0.5, "Simulator". That a file has one simulator, that nothing is called behind its run, and
-- which times and testbenches are taken, is this project's own rule.)
use Rattle.std.specs.Prelude.{ℕ, ◌*◌, ◌/◌, ◌^◌, nat_lt, ◌&&◌, ◌||◌, not, Bool, true, false, if◌then◌else◌, List, [], ◌∷◌, length, ℤ, pos, negsuc, Option, Some, None, is_some, option_and_then, codes}
use Rattle.lists.specs.Texts.{text_eq}
use Rattle.amh_host.specs.declared.place.Place.{Place}
use Rattle.py_values.specs.declared.val.FuncId.{FuncId}
use Rattle.py_values.specs.declared.val.Val.{Val}
use Rattle.py_values.specs.declared.val.Val.TheVariants as val
use Rattle.py_values.specs.declared.func.Code.{Code}
use Rattle.py_values.specs.declared.func.Code.TheVariants as code
use Rattle.py_values.specs.declared.func.Func.{Func}
use Rattle.py_heap.specs.Heaps.{Seen, text_at, func_at}
use Rattle.py_frames.specs.declared.request.Cause.TheVariants.{Raised, Limit}
use Rattle.elab_store.specs.declared.kept.SimulatorPart.{SimulatorPart}
use Rattle.elab_store.specs.declared.kept.SimulatorPart.TheVariants as part
use Rattle.elab_store.specs.declared.kept.Kept.TheVariants as kept
use Rattle.elab_store.specs.declared.simulation.RunEnd.TheVariants.{WithTestbenches, Until}
use Rattle.elab_store.specs.Calls.{Called}
use Rattle.elab_store.specs.Simulations.{Simulation, with_subject, with_clock, with_testbench, with_end}
use Rattle.elab_store.specs.Stores.{Held, Answered, refused, given, kept_given}
use Rattle.elab_acts.specs.declared.simulators.ClockArguments.{ClockArguments}
use Rattle.elab_acts.specs.declared.simulators.BenchArguments.{BenchArguments}
use Rattle.elab_components.specs.Signals.{without_arguments, signal_reset_less}

abbrev pub with_simulation : Simulation → Held → Held
with_simulation x h = record h { store = record h.store { simulation = x } }

-- ---- `Simulator(x)`, once

abbrev pub simulated : Val → Option Val → Held → Answered
simulated v None h = kept_given (kept.OfSimulator part.Whole) (with_simulation (with_subject v h.store.simulation) h)
simulated v (Some x) h = refused Raised h

abbrev pub simulator_placed : List Val → List (List ℕ) → Held → Answered
simulator_placed (v ∷ []) [] h = simulated v h.store.simulation.subject h
simulator_placed vs ns h = refused Raised h

abbrev pub simulator_called : Called → Held → Answered
simulator_called c h = simulator_placed c.placed c.keywords h

-- ---- its attributes, which are called

abbrev pub call_named : List ℕ → Option SimulatorPart
call_named n =
    if text_eq n (codes "add_clock") then Some part.AddClock
    else (if text_eq n (codes "add_testbench") then Some part.AddTestbench
    else (if text_eq n (codes "run") then Some part.Run
    else (if text_eq n (codes "run_until") then Some part.RunUntil
    else (if text_eq n (codes "write_vcd") then Some part.WriteVcd else None))))

abbrev pub simulator_part_given : Option SimulatorPart → Held → Answered
simulator_part_given (Some x) h = kept_given (kept.OfSimulator x) h
simulator_part_given None h = refused Raised h

abbrev pub simulator_attribute : SimulatorPart → List ℕ → Held → Answered
simulator_attribute part.Whole n h = simulator_part_given (call_named n) h
simulator_attribute x n h = refused Raised h

-- ---- times

-- so many seconds, as femtoseconds below 2^63
abbrev pub whole_seconds : ℕ → Option ℕ
whole_seconds n = if nat_lt (n * 10 ^ 15) (2 ^ 63) then Some (n * 10 ^ 15) else None

abbrev pub seconds : ℤ → Option ℕ
seconds (pos n) = whole_seconds n
seconds (negsuc n) = None

-- a time itself, and an integer or a boolean as so many seconds
abbrev pub time_meant : Val → Option ℕ
time_meant (val.Time t) = Some t
time_meant (val.Int n) = seconds n
time_meant (val.Bool b) = if b then whole_seconds 1 else whole_seconds 0
time_meant v = None

-- ---- `sim.add_clock(period, *, phase=None, domain="sync")`

abbrev pub no_clock_arguments : ClockArguments
no_clock_arguments = record { period = None; phase = None; domain = None }

-- an argument is given once
abbrev pub clock_once : Option Val → ClockArguments → Option ClockArguments
clock_once None args = Some args
clock_once (Some v) args = None

abbrev pub clock_keyword : List ℕ → Val → ClockArguments → Option ClockArguments
clock_keyword n v args =
    if text_eq n (codes "period") then clock_once args.period (record args { period = Some v })
    else (if text_eq n (codes "phase") then clock_once args.phase (record args { phase = Some v })
    else (if text_eq n (codes "domain") then clock_once args.domain (record args { domain = Some v }) else None))

abbrev pub clock_keywords : List (List ℕ) → List Val → ClockArguments → Option ClockArguments
clock_keywords [] vs args = Some args
clock_keywords (n ∷ ns) [] args = None
clock_keywords (n ∷ ns) (v ∷ vs) args = option_and_then (clock_keywords ns vs) (clock_keyword n v args)

-- the period alone may be given by its place
abbrev pub clock_placed : List Val → Option ClockArguments
clock_placed [] = Some no_clock_arguments
clock_placed (v ∷ []) = Some (record no_clock_arguments { period = Some v })
clock_placed (v ∷ w ∷ vs) = None

abbrev pub clock_arguments : Called → Option ClockArguments
clock_arguments c = option_and_then (clock_keywords c.keywords c.keyword_vals) (clock_placed c.placed)

abbrev pub given_time : Option Val → Option ℕ
given_time o = option_and_then time_meant o

-- the first rise, where it is not given in the middle of the period
abbrev pub phase_said : ℕ → Option Val → Option ℕ
phase_said period None = Some (period / 2)
phase_said period (Some val.None) = Some (period / 2)
phase_said period (Some v) = time_meant v

abbrev pub clock_domain : Seen → Option Val → Option (List ℕ)
clock_domain s None = Some (codes "sync")
clock_domain s (Some (val.Str x)) = Some (text_at s x.0)
clock_domain s (Some v) = None

abbrev pub clock_said : ℕ → Option ℕ → Option (List ℕ) → Place → Held → Answered
clock_said period (Some phase) (Some domain) p h =
    given val.None (with_simulation (with_clock (record { domain = domain; period = period; phase = phase; place = p }) h.store.simulation) h)
clock_said period None domain p h = refused Raised h
clock_said period (Some phase) None p h = refused Raised h

abbrev pub clock_timed : Seen → Option ℕ → ClockArguments → Place → Held → Answered
clock_timed s None args p h = refused Raised h
clock_timed s (Some period) args p h = clock_said period (phase_said period args.phase) (clock_domain s args.domain) p h

abbrev pub clock_from : Seen → Option ClockArguments → Place → Held → Answered
clock_from s None p h = refused Raised h
clock_from s (Some args) p h = clock_timed s (given_time args.period) args p h

-- ---- `sim.add_testbench(f, *, background=False)`

-- so many at most
abbrev pub most_testbenches : ℕ
most_testbenches = 64

abbrev pub no_bench_arguments : BenchArguments
no_bench_arguments = record { function = None; background = None }

abbrev pub bench_once : Option Val → BenchArguments → Option BenchArguments
bench_once None args = Some args
bench_once (Some v) args = None

abbrev pub bench_keyword : List ℕ → Val → BenchArguments → Option BenchArguments
bench_keyword n v args =
    if text_eq n (codes "f") then bench_once args.function (record args { function = Some v })
    else (if text_eq n (codes "background") then bench_once args.background (record args { background = Some v }) else None)

abbrev pub bench_keywords : List (List ℕ) → List Val → BenchArguments → Option BenchArguments
bench_keywords [] vs args = Some args
bench_keywords (n ∷ ns) [] args = None
bench_keywords (n ∷ ns) (v ∷ vs) args = option_and_then (bench_keywords ns vs) (bench_keyword n v args)

-- the function alone may be given by its place
abbrev pub bench_placed : List Val → Option BenchArguments
bench_placed [] = Some no_bench_arguments
bench_placed (v ∷ []) = Some (record no_bench_arguments { function = Some v })
bench_placed (v ∷ w ∷ vs) = None

abbrev pub bench_arguments : Called → Option BenchArguments
bench_arguments c = option_and_then (bench_keywords c.keywords c.keyword_vals) (bench_placed c.placed)

-- what a `def` made, and no builtin
abbrev pub is_def : Code → Bool
is_def (code.Def p) = true
is_def (code.Builtin b) = false

abbrev pub is_defined : Option Func → Bool
is_defined (Some f) = is_def f.code
is_defined None = false

abbrev pub bench_function : Seen → Option Val → Option FuncId
bench_function s (Some (val.Func f)) = if is_defined (func_at s f.0) then Some f else None
bench_function s v = None

abbrev pub bench_said : Option FuncId → Option Bool → Held → Answered
bench_said (Some f) (Some background) h =
    if nat_lt (length h.store.simulation.testbenches) most_testbenches
    then given val.None (with_simulation (with_testbench (record { function = f; background = background }) h.store.simulation) h) else refused Limit h
bench_said None background h = refused Raised h
bench_said (Some f) None h = refused Raised h

abbrev pub bench_from : Seen → Option BenchArguments → Held → Answered
bench_from s None h = refused Raised h
bench_from s (Some args) h = bench_said (bench_function s args.function) (signal_reset_less s args.background) h

-- ---- `sim.run()` and `sim.run_until(t)`

abbrev pub with_run : Option ℕ → Held → Held
with_run None h = with_simulation (with_end WithTestbenches h.store.simulation) h
with_run (Some t) h = with_simulation (with_end (Until t) h.store.simulation) h

abbrev pub run_called : Called → Held → Answered
run_called c h = without_arguments c.placed c.keywords (given val.None (with_run None h)) h

abbrev pub until_timed : Option ℕ → Held → Answered
until_timed None h = refused Raised h
until_timed (Some t) h = given val.None (with_run (Some t) h)

abbrev pub until_placed : List Val → List (List ℕ) → Held → Answered
until_placed (v ∷ []) [] h = until_timed (time_meant v) h
until_placed vs ns h = refused Raised h

-- ---- `sim.write_vcd(name, *, gtkw_file=.., traces=..)`, of which nothing is looked at

abbrev pub is_vcd_keyword : List ℕ → Bool
is_vcd_keyword n = text_eq n (codes "gtkw_file") || text_eq n (codes "traces")

-- one of the two, or both
abbrev pub are_vcd_keywords : List (List ℕ) → Bool
are_vcd_keywords [] = true
are_vcd_keywords (n ∷ []) = is_vcd_keyword n
are_vcd_keywords (m ∷ n ∷ []) = is_vcd_keyword m && (is_vcd_keyword n && not (text_eq m n))
are_vcd_keywords (l ∷ m ∷ n ∷ ns) = false

abbrev pub vcd_placed : List Val → Bool → Held → Answered
vcd_placed (v ∷ []) keywords h = if keywords then kept_given (kept.OfSimulator part.Vcd) h else refused Raised h
vcd_placed [] keywords h = refused Raised h
vcd_placed (v ∷ w ∷ vs) keywords h = refused Raised h

-- ---- a call: none behind that of a run

abbrev pub open_called : Seen → SimulatorPart → Called → Place → Held → Answered
open_called s part.AddClock c p h = clock_from s (clock_arguments c) p h
open_called s part.AddTestbench c p h = bench_from s (bench_arguments c) h
open_called s part.Run c p h = run_called c h
open_called s part.RunUntil c p h = until_placed c.placed c.keywords h
open_called s part.WriteVcd c p h = vcd_placed c.placed (are_vcd_keywords c.keywords) h
open_called s x c p h = refused Raised h

abbrev pub simulator_part_called : Seen → SimulatorPart → Called → Place → Held → Answered
simulator_part_called s x c p h = if is_some h.store.simulation.run_end then refused Raised h else open_called s x c p h

-- ---- `with sim.write_vcd(..)`, which binds None

abbrev pub vcd_passed : SimulatorPart → Held → Answered
vcd_passed part.Vcd h = given val.None h
vcd_passed x h = refused Raised h
