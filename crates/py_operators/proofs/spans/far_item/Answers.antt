use Rattle.std.proofs.Common.{◌≡◌, true, false, sym, ◌∙◌, ap}
use Rattle.amh_bits.specs.Integers.{sign_of, inverse_is}
use Rattle.py_operators.proofs.StepLaws.{far_back, far_forth}
use Rattle.py_operators.proofs.spans.far_item.Goals as goal

pub returns-in-Ok : goal.returns-in-Ok
returns-in-Ok c =
    let s : sign_of c.args.r.now.step ≡ true = ap sign_of (sym c.step.view_is) ∙ (inverse_is c.step.inside.negative c.step.inside.size c.step.invariant).0 ∙ c.if-step.true in
    far_back c.args.r.now.start c.args.r.now.stop c.args.r.now.step c.args.n c.in-Ok.m s c.requires.negative c.note_kept.ensures c.note_kept-2.ensures c.note_kept-3.ensures c.requires.far c.in-Ok.ensures.1

pub returns-in-Ok-add : goal.returns-in-Ok-add
returns-in-Ok-add c =
    let s : sign_of c.args.r.now.step ≡ false = ap sign_of (sym c.step.view_is) ∙ (inverse_is c.step.inside.negative c.step.inside.size c.step.invariant).0 ∙ c.if-step.false in
    far_forth c.args.r.now.start c.args.r.now.stop c.args.r.now.step c.args.n c.in-Ok-add.m s c.requires.negative c.note_kept.ensures c.note_kept-2.ensures c.note_kept-3.ensures c.requires.far c.in-Ok-add.ensures.1
