-- The clocks of a simulator, call by call.
use Rattle.std.proofs.Common.{◌≡◌, None, List}
use Rattle.design_ir.specs.Circuits.{Circuit}
use Rattle.elab_store.specs.declared.simulation.ClockCall.{ClockCall}
use Rattle.elab_eval.specs.Clocks.{refused_clock}

-- the calls from here on are not refused
abbrev pub AreKept : Circuit → List ClockCall → Type 0
AreKept d calls = (before : List ClockCall) × (refused_clock d before calls ≡ None)
