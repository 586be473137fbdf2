use Rattle.std.proofs.Common.{◌≡◌, ◌++◌, map, take, drop}
use Rattle.fsm_lowering.specs.States.{held_as}
use Rattle.fsm_lowering.proofs.states.hold_each.Given as goal

abbrev pub invariant-loop-s : goal.invariant-loop-s
invariant-loop-s l = l.states ≡ map (held_as l.name l.condition) (take l.s-index l.fn.states) ++ drop l.s-index l.fn.states
