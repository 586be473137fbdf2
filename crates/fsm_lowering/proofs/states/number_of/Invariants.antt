use Rattle.std.proofs.Common.{◌≡◌, ◌+◌, drop}
use Rattle.fsm_lowering.specs.States.{number_of}
use Rattle.fsm_lowering.proofs.states.number_of.Given as goal

abbrev pub invariant-loop-i : goal.invariant-loop-i
invariant-loop-i l = l.i + number_of (drop l.i l.states) l.name ≡ number_of l.states l.name
