use Rattle.std.proofs.Common.{arith, rules, ◌≡◌, ◌∙◌, sym, ap, ◌<◌, length, None}
use Rattle.fsm_lowering.specs.Calls.{undefined_state}
use Rattle.fsm_lowering.proofs.StateLaws.{first_among-below}
use Rattle.fsm_lowering.proofs.machine.Fsm.finish.Goals as goal

pub settle-requires-clause-among : goal.settle-requires-clause-among
settle-requires-clause-among c =
    let told : c.undefined.result ≡ None = search rules in
    let none = rw (← c.self.view_is) at c.undefined.ensures None in
    let first = rw (← c.self.view_is) at c.first_number.ensures in
    let below : c.in-Some-first_number.number < length c.self.inside.states.items =
    first_among-below c.self.inside.states.items c.self.inside.first c.self.inside.init c.self.inside.place c.in-Some-first_number.number c.self.invariant (none ∙ ap (λ o. undefined_state o None) told) (sym first ∙ c.in-Some-first_number.is) in
    omega (arith, below, c.len.ensures)
