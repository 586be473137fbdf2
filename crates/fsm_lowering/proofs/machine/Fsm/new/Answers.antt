use Rattle.design_ir.specs.declared.expr.Expr.TheVariants.{Sig}
use Rattle.fsm_lowering.proofs.StateLaws.{AreStates-none}
use Rattle.fsm_lowering.proofs.Unsettled.{unsettled_new, last_there}
use Rattle.fsm_lowering.proofs.machine.Fsm.new.Goals as goal

pub invariant_of-result : goal.invariant_of-result
invariant_of-result c = rw c.new.ensures.items AreStates-none

pub returns-clause-register : goal.returns-clause-register
returns-clause-register c =
    let made = c.in_ok-register.ensures.made in
    let signal = c.in_ok-signal.ensures.made in (
      rw (made.2, made.1) (last_there c.unsettled.new.pool.exprs (Sig c.in_ok-signal.signal)),
      rw (made.2, signal.2, signal.1) (unsettled_new c.args.pool.now c.push.new.self c.unsettled.ensures.rules),
    )
