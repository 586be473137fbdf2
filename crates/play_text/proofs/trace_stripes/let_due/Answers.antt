use Rattle.std.proofs.Common.{ap, sym, ◌∙◌, arith, true, slice_set}
use Rattle.play_text.specs.declared.trace_stripes.Stripe.{Stripe}
use Rattle.play_text.proofs.StripeLaws.{due_set-there, due_set-beyond}
use Rattle.play_text.proofs.trace_stripes.let_due.Goals as goal

pub returns-then-b-len : goal.returns-then-b-len
returns-then-b-len c =
    let all = c.args.stripes.now.items in
    ap (λ (x : Stripe). slice_set all c.args.b (record { lanes = x.lanes; due = true })) c.index_mut.ensures.value
    ∙ due_set-there all c.args.b c.index_mut.result.now (omega (arith, c.if-b-len.true, c.len.ensures, c.args.stripes.now.ok))

pub returns-else-b-len : goal.returns-else-b-len
returns-else-b-len c =
    sym (due_set-beyond c.args.stripes.now.items c.args.b (omega (arith, c.if-b-len.false, c.len.ensures, c.args.stripes.now.ok)))
