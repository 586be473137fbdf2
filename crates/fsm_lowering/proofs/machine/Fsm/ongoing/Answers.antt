use Rattle.std.proofs.Common.{◌≡◌, ap, ◌∙◌, ◌<◌, arith}
use Rattle.design_ir.specs.declared.expr.Expr.TheVariants.{Sig}
use Rattle.fsm_lowering.specs.States.{number_of, mentioned}
use Rattle.fsm_lowering.proofs.Register.{in_state-askable}
use Rattle.fsm_lowering.proofs.StateLaws.{AreStates-mentioned, AreStates-held}
use Rattle.fsm_lowering.proofs.machine.Fsm.ongoing.Goals as goal

pub made-requires-clause-askable : goal.made-requires-clause-askable
made-requires-clause-askable c = rw c.in_ok-number_pattern.ensures (in_state-askable c.args.pool.now c.self.inside.register (Sig c.self.inside.signal) c.number_of-number.result (rw (← c.self.view_is) at c.requires) c.if-number-ge256.false)

pub invariant_of-self-2 : goal.invariant_of-self-2
invariant_of-self-2 c =
    let is : c.number_of-number.result ≡ number_of c.self.inside.states.items c.args.name.now = c.number_of-number.ensures ∙ ap (λ xs. number_of xs c.args.name.now) c.as_slice-2.ensures.value in
    let few : number_of c.self.inside.states.items c.args.name.now < 256 = omega (arith, is, c.if-number-ge256.false) in
    rw c.in_ok-hold.ensures.held (AreStates-held (mentioned c.self.inside.states.items c.args.name.now c.args.place) c.self.inside.first c.args.name.now _ (AreStates-mentioned c.self.inside.states.items c.self.inside.first c.args.name.now c.args.place few c.self.invariant))
