use Rattle.std.proofs.Common.{sym, ap, subst}
use Rattle.std.specs.Prelude.{IfOk}
use Rattle.amh_bits.specs.Patterns.{IsOf}
use Rattle.design_ir.specs.declared.signal.Sig.{Sig}
use Rattle.design_ir.specs.declared.expr.Expr.TheVariants.{Const}
use Rattle.flat_design.specs.Adding.{IsAdded, AreBits}
use Rattle.flat_design.specs.Assigned.{IsStart}
use Rattle.flat_design.proofs.Answered.{ok_imp}
use Rattle.flat_design.proofs.Growing.{more_trans}
use Rattle.flat_design.proofs.StartLaws.{start_register, start_init, signal_shape, init_at}
use Rattle.flat_design.proofs.processes.start.Goals as goal

pub returns-then-clocked-clause-start : goal.returns-then-clocked-clause-start
returns-then-clocked-clause-start c =
    let p = c.args.design.now.pool in
    let q = c.added.new.pool in
    let sig : Sig = c.sig_at-sig.result.now in
    let e = c.in_ok-number.number in
    let more = more_trans p c.args.pool.now q c.requires.more c.in_ok-number.ensures.more in
    let width = ap (λ (x : Sig). x.shape.width) c.sig.view_is in
    ok_imp (AreBits e sig.shape.width) (IsStart p q c.args.clocked c.args.s.0) c.bits_of.result
    (λ xs bits.
    subst (λ b. IsStart p q b c.args.s.0 xs) (sym c.if-clocked.true)
    (start_register p q c.in_ok-number.ensures.rules more c.args.s e xs c.in_ok-number.ensures.added (subst (λ f. AreBits e f.width xs) (sym (signal_shape p c.args.s.0 sig c.sig_at-sig.ensures)) bits)))
    (subst (λ w. IfOk c.bits_of.result (AreBits e w)) width c.bits_of.ensures)

pub added-requires-2-clause-askable : goal.added-requires-2-clause-askable
added-requires-2-clause-askable c =
    let sig : Sig = c.sig_at-sig.result.now in
    let init = ap (λ (x : Sig). x.init) c.sig.view_is in
    record { names = tt; parts = subst (λ n. IsOf sig.shape.signed sig.shape.width n) (sym init) (init_at c.args.design.now.pool.signals c.args.s.0 sig c.count.ensures.rules.inits c.sig_at-sig.ensures) }

pub returns-clause-start : goal.returns-clause-start
returns-clause-start c =
    let p = c.args.design.now.pool in
    let q = c.added-2.new.pool in
    let sig : Sig = c.sig_at-sig.result.now in
    let e = c.in_ok-number-2.number in
    let more = more_trans p c.args.pool.now q c.requires.more c.in_ok-number-2.ensures.more in
    let width = ap (λ (x : Sig). x.shape.width) c.sig.view_is in
    let init = ap (λ (x : Sig). x.init) c.sig.view_is in
    let added : IsAdded q (Const sig.init sig.shape) e = subst (λ n. IsAdded q (Const n sig.shape) e) init c.in_ok-number-2.ensures.added in
    ok_imp (AreBits e sig.shape.width) (IsStart p q c.args.clocked c.args.s.0) c.bits_of-2.result
    (λ xs bits. subst (λ b. IsStart p q b c.args.s.0 xs) (sym c.if-clocked.false) (start_init p q c.in_ok-number-2.ensures.rules more c.args.s e xs sig c.sig_at-sig.ensures added bits))
    (subst (λ w. IfOk c.bits_of-2.result (AreBits e w)) width c.bits_of-2.ensures)
