-- What the simulator of a file was told. (Amaranth language guide 0.5, "Simulator". That a file has one simulator is this project's own rule.)
use Rattle.std.specs.Prelude.{List, [], ◌∷◌, ◌++◌, Option, Some, None}
use Rattle.py_values.specs.declared.val.Val.{Val}
use Rattle.elab_store.specs.declared.simulation.ClockCall.{ClockCall}
use Rattle.elab_store.specs.declared.simulation.Testbench.{Testbench}
use Rattle.elab_store.specs.declared.simulation.RunEnd.{RunEnd}
use Rattle.elab_store.specs.declared.simulation.Wait.{Wait}

pub record Simulation : Type 0 where
  -- what is simulated, once `Simulator` was called
  pub subject : Option Val
  -- clocks and testbenches, each in the order of the calls
  pub clocks : List ClockCall
  pub testbenches : List Testbench
  -- how the run ends, once it was called
  pub run_end : Option RunEnd
  -- what testbenches may wait for, in order of making
  pub waits : List Wait

-- before the body of a program
abbrev pub no_simulation : Simulation
no_simulation = record { subject = None; clocks = []; testbenches = []; run_end = None; waits = [] }

abbrev pub with_subject : Val → Simulation → Simulation
with_subject v x = record x { subject = Some v }

abbrev pub with_clock : ClockCall → Simulation → Simulation
with_clock c x = record x { clocks = x.clocks ++ c ∷ [] }

abbrev pub with_testbench : Testbench → Simulation → Simulation
with_testbench t x = record x { testbenches = x.testbenches ++ t ∷ [] }

abbrev pub with_end : RunEnd → Simulation → Simulation
with_end e x = record x { run_end = Some e }

abbrev pub with_wait : Wait → Simulation → Simulation
with_wait w x = record x { waits = x.waits ++ w ∷ [] }
