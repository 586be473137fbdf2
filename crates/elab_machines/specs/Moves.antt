-- What the innermost machine of a module does where a state or the machine begins or ends, as the code asks for it.
use Rattle.std.specs.Prelude.{◌≡◌, ℕ, List, Option, Some, None, Result, Ok, Err}
use Rattle.amh_host.specs.declared.place.Place.{Place}
use Rattle.py_values.specs.declared.val.Val.TheVariants as val
use Rattle.design_ir.specs.declared.ids.ExprId.{ExprId}
use Rattle.design_ir.specs.Pools.{Pooled}
use Rattle.module_dsl.specs.Builders.{Built}
use Rattle.fsm_lowering.specs.declared.refusal.FsmStop.{FsmStop}
use Rattle.fsm_lowering.specs.Machines.{Machine}
use Rattle.elab_machines.specs.declared.machine_moves.Action.{Action}
use Rattle.elab_machines.specs.declared.machine_moves.Action.TheVariants as action
use Rattle.amh_things.specs.declared.thing.Thing.TheVariants as thing
use Rattle.elab_store.specs.Stores.{Held, Answered, given, thing_given}
use Rattle.elab_machines.specs.StateMachines.{Moved, state_begins, state_ends, machine_ends, stop_told}

abbrev pub action_moves : Action → List ℕ → Place → Pooled → Machine → Built → Result Moved FsmStop
action_moves action.BeginState name p q x b = state_begins name p q x b
action_moves action.EndState name p q x b = state_ends q x b
action_moves action.EndMachine name p q x b = machine_ends q x b

-- where it is refused nothing has changed
abbrev pub IsMoved : Option FsmStop → Result Moved FsmStop → Moved → Moved → Type 0
IsMoved None owed old new = owed ≡ Ok new
IsMoved (Some why) owed old new = (owed ≡ Err why) × (new ≡ old)

abbrev pub moved_as : Pooled → Machine → Built → Moved
moved_as q x b = record { pool = q; machine = x; built = b }

abbrev pub told_after : Option FsmStop → Place → Held → Answered
told_after None p h = given val.None h
told_after (Some why) p h = stop_told p why h

-- what is told where a machine was asked for a state: the expression that was made, or why it is refused
abbrev pub asked_after : Option FsmStop → Place → ExprId → Held → Answered
asked_after None p e h = thing_given (thing.Value e) h
asked_after (Some why) p e h = stop_told p why h
