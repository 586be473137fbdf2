use Rattle.std.proofs.Common.{◌≡◌, drop}
use Rattle.fsm_lowering.specs.States.{first_unentered}
use Rattle.fsm_lowering.proofs.states.first_unentered.Given as goal

abbrev pub invariant-loop-s : goal.invariant-loop-s
invariant-loop-s l = first_unentered (drop l.s-index l.states) ≡ first_unentered l.states
