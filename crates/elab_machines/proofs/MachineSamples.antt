-- The acts of a state machine, worked out:
--     with m.FSM():                 line 1
--         with m.State("A"):        line 2
--             m.next = "B"          line 3
--         with m.State("B"):        line 4
use Rattle.std.specs.Prelude.{◌≡◌, refl, ℕ, true, false, [], ◌∷◌, pos, Some, None, codes}
use Rattle.amh_host.specs.declared.place.Place.{Place}
use Rattle.shape_rules.specs.Forms.{unsigned}
use Rattle.identifiers.proofs.Computing.{identifiers}
use Rattle.py_values.specs.declared.val.Val.TheVariants as val
use Rattle.py_frames.specs.declared.request.Answer.TheVariants as answer
use Rattle.py_frames.specs.declared.request.Cause.TheVariants.{Raised}
use Rattle.design_ir.specs.declared.signal.Sig.{Sig}
use Rattle.module_dsl.specs.Blocks.{blocks_of}
use Rattle.fsm_lowering.specs.States.{least_width}
use Rattle.elab_store.specs.Stores.{Held, Answered, nothing_held}
use Rattle.elab_store.specs.OpenMachines.{in_machine}
use Rattle.elab_machines.specs.StateMachines.{machine_begun, moved, state_begins, state_ends, next_goes, machine_ends}

line : ℕ → Place
line n = record { line = n; col = 1 }

-- a store with one module
held : Held
held = record nothing_held { store = record nothing_held.store { modules = record { name = []; steps = [] } ∷ [] } }

begun : Answered
begun = machine_begun 0 (codes "sync") (codes "fsm") None (line 1) held

in_a : Answered
in_a = moved (state_begins (codes "A") (line 2)) 0 (line 2) begun.held

to_b : Answered
to_b = moved (next_goes 0 in_a.held (codes "B") (line 3)) 0 (line 3) in_a.held

behind_a : Answered
behind_a = moved state_ends 0 (line 2) to_b.held

in_b : Answered
in_b = moved (state_begins (codes "B") (line 4)) 0 (line 4) behind_a.held

behind_b : Answered
behind_b = moved state_ends 0 (line 4) in_b.held

-- directly in the machine stand states alone, and in a state what may stand in any block
places : (in_machine 0 begun.held.store.machines ≡ true) × (in_machine 0 in_a.held.store.machines ≡ false) × (in_machine 0 behind_a.held.store.machines ≡ true)
unfolding identifiers line held begun in_a to_b behind_a blocks_of
places = (refl, refl, refl)

-- the state B is never entered: this is told where `next` mentions it
undefined : Answered
undefined = moved machine_ends 0 (line 1) behind_a.held

told_at_mention : (undefined.answer ≡ answer.Refuse Raised) × (undefined.held.store.told ≡ Some (line 3))
unfolding identifiers line held begun in_a to_b behind_a undefined blocks_of least_width
told_at_mention = (refl, refl)

-- entered twice, a state is told at its second call
twice : Answered
twice = moved (state_begins (codes "A") (line 4)) 0 (line 4) behind_a.held

told_at_call : (twice.answer ≡ answer.Refuse Raised) × (twice.held.store.told ≡ Some (line 4))
unfolding identifiers line held begun in_a to_b behind_a twice blocks_of
told_at_call = (refl, refl)

-- two states have one bit, and the first that was entered has number 0
ended : Answered
ended = moved machine_ends 0 (line 1) behind_b.held

register : Sig
register = record { name = codes "fsm_state"; shape = unsigned 1; init = pos 0; reset_less = false }

settled : (ended.answer ≡ answer.Give val.None) × (ended.held.pool.signals ≡ register ∷ [])
unfolding identifiers line held begun in_a to_b behind_a in_b behind_b ended register blocks_of least_width
settled = (refl, refl)

-- behind its end no state stands in it
late : Answered
late = moved (state_begins (codes "C") (line 5)) 0 (line 5) ended.held

ended_for_good : late.answer ≡ answer.Refuse Raised
unfolding identifiers line held begun in_a to_b behind_a in_b behind_b ended late blocks_of least_width
ended_for_good = refl
