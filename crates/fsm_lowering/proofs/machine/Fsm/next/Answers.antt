use Rattle.std.proofs.Common.{◌≡◌, ap, ◌∙◌, ◌<◌, arith}
use Rattle.fsm_lowering.specs.States.{number_of}
use Rattle.fsm_lowering.proofs.Register.{state_number-askable}
use Rattle.fsm_lowering.proofs.StateLaws.{AreStates-mentioned}
use Rattle.fsm_lowering.proofs.machine.Fsm.next.Goals as goal

pub made-requires-clause-askable : goal.made-requires-clause-askable
made-requires-clause-askable c = rw c.state_number.ensures (state_number-askable c.args.pool.now c.number_of-number.result c.if-number-ge256.false)

pub invariant_of-self-2 : goal.invariant_of-self-2
invariant_of-self-2 c =
    let is : c.number_of-number.result ≡ number_of c.self.inside.states.items c.args.name.now = c.number_of-number.ensures ∙ ap (λ xs. number_of xs c.args.name.now) c.as_slice.ensures.value in
    let few : number_of c.self.inside.states.items c.args.name.now < 256 = omega (arith, is, c.if-number-ge256.false) in
    rw c.in_ok-mention.ensures.mentioned (AreStates-mentioned c.self.inside.states.items c.self.inside.first c.args.name.now c.args.place few c.self.invariant)

pub invariant_of-self-in_err-assign : goal.invariant_of-self-in_err-assign
invariant_of-self-in_err-assign c =
    let is : c.number_of-number.result ≡ number_of c.self.inside.states.items c.args.name.now = c.number_of-number.ensures ∙ ap (λ xs. number_of xs c.args.name.now) c.as_slice.ensures.value in
    let few : number_of c.self.inside.states.items c.args.name.now < 256 = omega (arith, is, c.if-number-ge256.false) in
    rw c.in_ok-mention.ensures.mentioned (AreStates-mentioned c.self.inside.states.items c.self.inside.first c.args.name.now c.args.place few c.self.invariant)
