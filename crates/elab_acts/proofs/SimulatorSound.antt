-- What is held stays sound by the calls of a simulator.
use Rattle.std.proofs.Common.{ℕ, nat_lt, Bool, true, false, List, [], ◌∷◌, length, Option, Some, None, is_some}
use Rattle.std.specs.Prelude.{if◌then◌else◌}
use Rattle.std.specs.List.{AllByRecursion}
use Rattle.amh_host.specs.declared.place.Place.{Place}
use Rattle.py_values.specs.declared.val.FuncId.{FuncId}
use Rattle.py_values.specs.declared.val.Val.{Val}
use Rattle.py_values.specs.declared.val.Val.TheVariants as val
use Rattle.py_heap.specs.Heaps.{Seen}
use Rattle.elab_store.specs.declared.kept.SimulatorPart.{SimulatorPart}
use Rattle.elab_store.specs.declared.kept.SimulatorPart.TheVariants as part
use Rattle.elab_store.specs.declared.kept.Kept.TheVariants as kept
use Rattle.elab_store.specs.Calls.{Called}
use Rattle.elab_store.specs.Simulations.{Simulation, with_subject}
use Rattle.elab_store.specs.Stores.{Held, Answered, given}
use Rattle.elab_store.specs.Sound.{IsWait, IsSound}
use Rattle.elab_acts.specs.declared.simulators.ClockArguments.{ClockArguments}
use Rattle.elab_acts.specs.declared.simulators.BenchArguments.{BenchArguments}
use Rattle.elab_components.specs.Signals.{without_arguments, signal_reset_less}
use Rattle.elab_acts.specs.Simulators.{with_simulation, simulated, simulator_placed, simulator_called, call_named, simulator_part_given, simulator_attribute, time_meant, clock_arguments, given_time, phase_said, clock_domain, clock_said, clock_timed, clock_from, most_testbenches, bench_arguments, bench_function, bench_said, bench_from, with_run, until_timed, until_placed, are_vcd_keywords, vcd_placed, open_called, simulator_part_called, vcd_passed}
use Rattle.elab_acts.proofs.GrownLaws.{keeping_sound}

if_sound : (b : Bool) (x y : Answered) → IsSound x.held → IsSound y.held → IsSound (if b then x else y).held
if_sound true x y h g = h
if_sound false x y h g = g

-- where only what the simulator was told is another, with waits that stand
simulation_sound : (x : Simulation) (h : Held) → AllByRecursion (IsWait h.pool) x.waits → IsSound h → IsSound (with_simulation x h)
simulation_sound x h waits t = record { names = t.names; things = t.things; kept = t.kept; modules = t.modules; components = t.components; machines = t.machines; domains = t.domains; additions = t.additions; clock_domains = t.clock_domains; memories = t.memories; registers = t.registers; wrappings = t.wrappings; waits = waits }

simulated_sound : (v : Val) (o : Option Val) (h : Held) → IsSound h → IsSound (simulated v o h).held
simulated_sound v None h t = keeping_sound (with_simulation (with_subject v h.store.simulation) h) (kept.OfSimulator part.Whole) (simulation_sound (with_subject v h.store.simulation) h t.waits t) tt
simulated_sound v (Some x) h t = t

placed_sound : (vs : List Val) (ns : List (List ℕ)) (h : Held) → IsSound h → IsSound (simulator_placed vs ns h).held
placed_sound [] ns h t = t
placed_sound (v ∷ []) [] h t = simulated_sound v h.store.simulation.subject h t
placed_sound (v ∷ []) (n ∷ ns) h t = t
placed_sound (v ∷ w ∷ vs) ns h t = t

pub called_sound : (c : Called) (h : Held) → IsSound h → IsSound (simulator_called c h).held
called_sound c h t = placed_sound c.placed c.keywords h t

part_given_sound : (o : Option SimulatorPart) (h : Held) → IsSound h → IsSound (simulator_part_given o h).held
part_given_sound (Some x) h t = keeping_sound h (kept.OfSimulator x) t tt
part_given_sound None h t = t

pub attribute_sound : (x : SimulatorPart) (n : List ℕ) (h : Held) → IsSound h → IsSound (simulator_attribute x n h).held
attribute_sound part.Whole n h t = part_given_sound (call_named n) h t
attribute_sound part.AddClock n h t = t
attribute_sound part.AddTestbench n h t = t
attribute_sound part.Run n h t = t
attribute_sound part.RunUntil n h t = t
attribute_sound part.WriteVcd n h t = t
attribute_sound part.Vcd n h t = t

-- ---- clocks

clock_said_sound : (period : ℕ) (phase : Option ℕ) (domain : Option (List ℕ)) (p : Place) (h : Held) → IsSound h → IsSound (clock_said period phase domain p h).held
clock_said_sound period (Some phase) (Some domain) p h t = simulation_sound _ h t.waits t
clock_said_sound period None domain p h t = t
clock_said_sound period (Some phase) None p h t = t

clock_timed_sound : (s : Seen) (o : Option ℕ) (args : ClockArguments) (p : Place) (h : Held) → IsSound h → IsSound (clock_timed s o args p h).held
clock_timed_sound s None args p h t = t
clock_timed_sound s (Some period) args p h t = clock_said_sound period (phase_said period args.phase) (clock_domain s args.domain) p h t

clock_from_sound : (s : Seen) (o : Option ClockArguments) (p : Place) (h : Held) → IsSound h → IsSound (clock_from s o p h).held
clock_from_sound s None p h t = t
clock_from_sound s (Some args) p h t = clock_timed_sound s (given_time args.period) args p h t

-- ---- testbenches

bench_said_sound : (f : Option FuncId) (b : Option Bool) (h : Held) → IsSound h → IsSound (bench_said f b h).held
bench_said_sound (Some f) (Some b) h t = if_sound (nat_lt (length h.store.simulation.testbenches) most_testbenches) _ _ (simulation_sound _ h t.waits t) t
bench_said_sound None b h t = t
bench_said_sound (Some f) None h t = t

bench_from_sound : (s : Seen) (o : Option BenchArguments) (h : Held) → IsSound h → IsSound (bench_from s o h).held
bench_from_sound s None h t = t
bench_from_sound s (Some args) h t = bench_said_sound (bench_function s args.function) (signal_reset_less s args.background) h t

-- ---- runs and `write_vcd`

run_sound : (vs : List Val) (ns : List (List ℕ)) (h : Held) → IsSound h → IsSound (without_arguments vs ns (given val.None (with_run None h)) h).held
run_sound [] [] h t = simulation_sound _ h t.waits t
run_sound (v ∷ vs) ns h t = t
run_sound [] (n ∷ ns) h t = t

until_timed_sound : (o : Option ℕ) (h : Held) → IsSound h → IsSound (until_timed o h).held
until_timed_sound None h t = t
until_timed_sound (Some n) h t = simulation_sound _ h t.waits t

until_sound : (vs : List Val) (ns : List (List ℕ)) (h : Held) → IsSound h → IsSound (until_placed vs ns h).held
until_sound [] ns h t = t
until_sound (v ∷ []) [] h t = until_timed_sound (time_meant v) h t
until_sound (v ∷ []) (n ∷ ns) h t = t
until_sound (v ∷ w ∷ vs) ns h t = t

vcd_sound : (vs : List Val) (b : Bool) (h : Held) → IsSound h → IsSound (vcd_placed vs b h).held
vcd_sound [] b h t = t
vcd_sound (v ∷ []) b h t = if_sound b _ _ (keeping_sound h (kept.OfSimulator part.Vcd) t tt) t
vcd_sound (v ∷ w ∷ vs) b h t = t

-- ---- all calls

open_sound : (s : Seen) (x : SimulatorPart) (c : Called) (p : Place) (h : Held) → IsSound h → IsSound (open_called s x c p h).held
open_sound s part.AddClock c p h t = clock_from_sound s (clock_arguments c) p h t
open_sound s part.AddTestbench c p h t = bench_from_sound s (bench_arguments c) h t
open_sound s part.Run c p h t = run_sound c.placed c.keywords h t
open_sound s part.RunUntil c p h t = until_sound c.placed c.keywords h t
open_sound s part.WriteVcd c p h t = vcd_sound c.placed (are_vcd_keywords c.keywords) h t
open_sound s part.Whole c p h t = t
open_sound s part.Vcd c p h t = t

pub part_called_sound : (s : Seen) (x : SimulatorPart) (c : Called) (p : Place) (h : Held) → IsSound h → IsSound (simulator_part_called s x c p h).held
part_called_sound s x c p h t = if_sound (is_some h.store.simulation.run_end) _ _ t (open_sound s x c p h t)

pub passed_sound : (x : SimulatorPart) (h : Held) → IsSound h → IsSound (vcd_passed x h).held
passed_sound part.Vcd h t = t
passed_sound part.Whole h t = t
passed_sound part.AddClock h t = t
passed_sound part.AddTestbench h t = t
passed_sound part.Run h t = t
passed_sound part.RunUntil h t = t
passed_sound part.WriteVcd h t = t
