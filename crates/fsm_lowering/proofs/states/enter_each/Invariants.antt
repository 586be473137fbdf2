use Rattle.std.proofs.Common.{◌≡◌, ◌++◌, map, take, drop}
use Rattle.fsm_lowering.specs.States.{entered_as}
use Rattle.fsm_lowering.proofs.states.enter_each.Given as goal

abbrev pub invariant-loop-s : goal.invariant-loop-s
invariant-loop-s l = l.states ≡ map (entered_as l.name l.condition) (take l.s-index l.fn.states) ++ drop l.s-index l.fn.states
