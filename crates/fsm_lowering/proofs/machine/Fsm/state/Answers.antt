use Rattle.std.proofs.Common.{arith, rules, ◌≡◌, ◌∙◌, sym, ap, ◌<◌, true, unwrap_or}
use Rattle.design_ir.specs.declared.expr.Expr.TheVariants.{Sig}
use Rattle.fsm_lowering.specs.States.{number_of, mentioned, is_entered}
use Rattle.fsm_lowering.proofs.Register.{in_state-askable}
use Rattle.fsm_lowering.proofs.StateLaws.{AreStates-mentioned, AreStates-entered, entered-begun, first-below}
use Rattle.fsm_lowering.proofs.Refusals.{state_refusal-repeated}
use Rattle.fsm_lowering.proofs.machine.Fsm.state.Goals as goal

pub returns-then-is_entered-clause-refused : goal.returns-then-is_entered-clause-refused
returns-then-is_entered-clause-refused c =
    let between : c.is_between.result ≡ true = search rules in
    let entered : is_entered c.self.inside.states.items c.args.name.now ≡ true = ap (λ xs. is_entered xs c.args.name.now) (sym c.as_slice.ensures.value) ∙ sym c.is_entered.ensures ∙ c.if-is_entered.true in
    let begun = entered-begun c.self.inside.states.items c.self.inside.first c.args.name.now c.self.invariant entered in
    state_refusal-repeated c.args.pool.now c.args.self.now c.args.b.now c.args.name.now (rw (← c.self.view_is) (sym c.is_between.ensures ∙ between)) (rw (← c.self.view_is) begun) (rw (← c.self.view_is) entered)

pub begin_case-requires-clause-askable : goal.begin_case-requires-clause-askable
begin_case-requires-clause-askable c =
    rw (c.begin_choice.ensures.pool, c.in_ok-patterns.ensures) (in_state-askable c.args.pool.now c.self.inside.register (Sig c.self.inside.signal) c.number_of-number.result (rw (← c.self.view_is) at c.requires.register) c.if-number-ge256.false)

pub invariant_of-self-2 : goal.invariant_of-self-2
invariant_of-self-2 c =
    let states = c.self.inside.states.items in
    let name = c.args.name.now in
    let is : c.number_of-number.result ≡ number_of states name = c.number_of-number.ensures ∙ ap (λ xs. number_of xs name) c.as_slice-2.ensures.value in
    let few : number_of states name < 256 = omega (arith, is, c.if-number-ge256.false) in
    let known = AreStates-mentioned states c.self.inside.first name c.args.place few c.self.invariant in
    let first = first-below states c.self.inside.first name c.args.place c.self.invariant in
    rw (c.in_ok-enter.ensures.entered, c.unwrap_or.ensures, is) (AreStates-entered (mentioned states name c.args.place) c.self.inside.first name _ (unwrap_or c.self.inside.first (number_of states name)) first known)
