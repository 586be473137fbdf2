use Rattle.std.proofs.Common.{refl, ap, ℕ, List, [], ◌∷◌, ◌++◌, arith, ◌≡◌, ◌∙◌, ◌<◌, ◌≤◌, length}
use Rattle.fsm_lowering.specs.declared.states.State.{State}
use Rattle.fsm_lowering.specs.States.{unentered, number_of}
use Rattle.fsm_lowering.proofs.StateLaws.{number_of-known, number_of-unknown}
use Rattle.fsm_lowering.proofs.states.mention.Goals as goal

pub returns-then-number_of-len-clause-mentioned : goal.returns-then-number_of-len-clause-mentioned
returns-then-number_of-len-clause-mentioned c =
    let states = c.args.states.now.items in
    let is : c.number_of.result ≡ number_of states c.args.name.now = grind (arith, c.number_of.ensures, c.as_slice.ensures.value) in
    let below : number_of states c.args.name.now < length states = omega (arith, is, c.if-number_of-len.true, c.len.ensures) in
    rw (number_of-known states c.args.name.now below) (refl {A = List State})

pub returns-clause-mentioned : goal.returns-clause-mentioned
returns-clause-mentioned c =
    let states = c.args.states.now.items in
    let is : c.number_of.result ≡ number_of states c.args.name.now = grind (arith, c.number_of.ensures, c.as_slice.ensures.value) in
    let below : length states ≤ number_of states c.args.name.now = omega (arith, is, c.if-number_of-len.false, c.len.ensures) in
    rw (number_of-unknown states c.args.name.now below) (c.in_ok-push.ensures.items ∙ ap (λ (n : List ℕ). states ++ unentered n c.args.place ∷ []) c.in_ok-name.ensures)
