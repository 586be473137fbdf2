use Rattle.std.proofs.Common.{◌≡◌, drop}
use Rattle.fsm_lowering.specs.States.{condition_in}
use Rattle.fsm_lowering.proofs.states.condition_in.Given as goal

abbrev pub invariant-loop-s : goal.invariant-loop-s
invariant-loop-s l = condition_in (drop l.s-index l.states) l.name ≡ condition_in l.states l.name
