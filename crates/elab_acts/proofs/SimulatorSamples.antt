-- A simulator, worked out: thing 0 is a module, and thing 1 becomes the simulator of it.
use Rattle.std.specs.Prelude.{◌≡◌, refl, ℕ, true, false, pos, negsuc, List, [], ◌∷◌, Some, None, codes}
use Rattle.amh_host.specs.declared.place.Place.{Place}
use Rattle.py_values.specs.declared.val.Val.{Val}
use Rattle.py_values.specs.declared.val.Val.TheVariants as val
use Rattle.py_heap.specs.Heaps.{Seen, seen, nothing}
use Rattle.py_frames.specs.declared.request.Answer.TheVariants as answer
use Rattle.py_frames.specs.declared.request.Cause.TheVariants.{Raised}
use Rattle.elab_store.specs.declared.kept.SimulatorPart.{SimulatorPart}
use Rattle.elab_store.specs.declared.kept.SimulatorPart.TheVariants as part
use Rattle.elab_store.specs.declared.simulation.ClockCall.{ClockCall}
use Rattle.elab_store.specs.declared.simulation.RunEnd.TheVariants.{WithTestbenches, Until}
use Rattle.elab_store.specs.Calls.{called}
use Rattle.elab_store.specs.Stores.{Held, Answered, nothing_held}
use Rattle.elab_components.specs.Signals.{module_called}
use Rattle.elab_acts.specs.Simulators.{simulator_called, simulator_attribute, time_meant, are_vcd_keywords, simulator_part_called}

thing : ℕ → Val
thing n = val.Hw (record { 0 = n })

heap : Seen
heap = seen nothing nothing

-- a second is 10^15 femtoseconds, and 9,223 of them are below 2^63
times_meant : (time_meant (val.Time 7) ≡ Some 7) × (time_meant (val.Int (pos 2)) ≡ Some 2000000000000000) × (time_meant (val.Bool true) ≡ Some 1000000000000000) × (time_meant (val.Bool false) ≡ Some 0)
times_meant = (refl, refl, refl, refl)

times_bounded : (time_meant (val.Int (pos 9223)) ≡ Some 9223000000000000000) × (time_meant (val.Int (pos 9224)) ≡ None) × (time_meant (val.Int (negsuc 0)) ≡ None) × (time_meant val.None ≡ None)
times_bounded = (refl, refl, refl, refl)

-- ---- sim = Simulator(m)

with_module : Held
with_module = (module_called (called (thing 9 ∷ []) []) nothing_held).held

simulated : Answered
simulated = simulator_called (called (thing 9 ∷ thing 0 ∷ []) (codes "sim" ∷ [])) with_module

simulated_once : (simulated.answer ≡ answer.Give (thing 1)) × (simulated.held.store.simulation.subject ≡ Some (thing 0)) × ((simulator_called (called (thing 9 ∷ thing 0 ∷ []) ([] ∷ [])) simulated.held).answer ≡ answer.Refuse Raised)
unfolding thing with_module simulated
simulated_once = (refl, refl, refl)

-- by a keyword, and without what is simulated
simulated_not : ((simulator_called (called (thing 9 ∷ thing 0 ∷ []) ([] ∷ codes "x" ∷ [])) with_module).answer ≡ answer.Refuse Raised) × ((simulator_called (called (thing 9 ∷ []) ([] ∷ [])) with_module).answer ≡ answer.Refuse Raised)
unfolding thing with_module
simulated_not = (refl, refl)

attributes_named : ((simulator_attribute part.Whole (codes "run") simulated.held).answer ≡ answer.Give (thing 2)) × ((simulator_attribute part.Whole (codes "top") simulated.held).answer ≡ answer.Refuse Raised)
    × ((simulator_attribute part.Run (codes "run") simulated.held).answer ≡ answer.Refuse Raised)
unfolding thing with_module simulated
attributes_named = (refl, refl, refl)

-- ---- its calls

p : Place
p = record { line = 3; col = 1 }

-- sim.add_clock(t) with t of 1,000 femtoseconds, then sim.add_clock(period=1, phase=0)
first_clock : Answered
first_clock = simulator_part_called heap part.AddClock (called (thing 5 ∷ val.Time 1000 ∷ []) ([] ∷ [])) p simulated.held

second_clock : Answered
second_clock = simulator_part_called heap part.AddClock (called (thing 5 ∷ val.Int (pos 1) ∷ val.Int (pos 0) ∷ []) ([] ∷ codes "period" ∷ codes "phase" ∷ [])) p first_clock.held

clocks : List ClockCall
clocks = record { domain = codes "sync"; period = 1000; phase = 500; place = p } ∷ record { domain = codes "sync"; period = 1000000000000000; phase = 0; place = p } ∷ []

clocks_noted : (second_clock.answer ≡ answer.Give val.None) × (second_clock.held.store.simulation.clocks ≡ clocks)
unfolding thing heap with_module simulated p first_clock second_clock clocks
clocks_noted = (refl, refl)

-- no period, one period twice, and a phase of 9,224 seconds
clocks_refused : ((simulator_part_called heap part.AddClock (called (thing 5 ∷ []) ([] ∷ [])) p simulated.held).answer ≡ answer.Refuse Raised)
    × ((simulator_part_called heap part.AddClock (called (thing 5 ∷ val.Time 2 ∷ val.Time 2 ∷ []) ([] ∷ codes "period" ∷ [])) p simulated.held).answer ≡ answer.Refuse Raised)
    × ((simulator_part_called heap part.AddClock (called (thing 5 ∷ val.Time 2 ∷ val.Int (pos 9224) ∷ []) ([] ∷ codes "phase" ∷ [])) p simulated.held).answer ≡ answer.Refuse Raised)
unfolding thing heap with_module simulated p
clocks_refused = (refl, refl, refl)

-- a function that no `def` made is no testbench
benches_refused : ((simulator_part_called heap part.AddTestbench (called (thing 5 ∷ val.Func (record { 0 = 3 }) ∷ []) ([] ∷ [])) p simulated.held).answer ≡ answer.Refuse Raised)
    × ((simulator_part_called heap part.AddTestbench (called (thing 5 ∷ val.None ∷ []) ([] ∷ [])) p simulated.held).answer ≡ answer.Refuse Raised)
unfolding thing heap with_module simulated p
benches_refused = (refl, refl)

-- ---- runs

run : Answered
run = simulator_part_called heap part.Run (called (thing 5 ∷ []) ([] ∷ [])) p second_clock.held

run_noted : (run.answer ≡ answer.Give val.None) × (run.held.store.simulation.run_end ≡ Some WithTestbenches) × (run.held.store.simulation.clocks ≡ clocks)
unfolding thing heap with_module simulated p first_clock second_clock clocks run
run_noted = (refl, refl, refl)

-- nothing is called behind it
run_last : ((simulator_part_called heap part.Run (called (thing 5 ∷ []) ([] ∷ [])) p run.held).answer ≡ answer.Refuse Raised)
    × ((simulator_part_called heap part.AddClock (called (thing 5 ∷ val.Time 1000 ∷ []) ([] ∷ [])) p run.held).answer ≡ answer.Refuse Raised)
unfolding thing heap with_module simulated p first_clock second_clock run
run_last = (refl, refl)

until_noted : (simulator_part_called heap part.RunUntil (called (thing 5 ∷ val.Bool true ∷ []) ([] ∷ [])) p simulated.held).held.store.simulation.run_end ≡ Some (Until 1000000000000000)
unfolding thing heap with_module simulated p
until_noted = refl

vcd_keywords : (are_vcd_keywords [] ≡ true) × (are_vcd_keywords (codes "traces" ∷ codes "gtkw_file" ∷ []) ≡ true) × (are_vcd_keywords (codes "traces" ∷ codes "traces" ∷ []) ≡ false) × (are_vcd_keywords (codes "name" ∷ []) ≡ false)
vcd_keywords = (refl, refl, refl, refl)
