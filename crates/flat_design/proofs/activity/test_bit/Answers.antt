use Rattle.std.specs.Prelude.{◌≡◌, refl, ◌^◌, ◌≤◌, pos}
use Rattle.std.proofs.Common.{sym, ◌∙◌, ap, subst}
use Rattle.shape_rules.specs.Forms.{Form, unsigned}
use Rattle.design_ir.specs.declared.expr.Expr.TheVariants.{Const, Binary}
use Rattle.design_ir.specs.Pools.{Pooled}
use Rattle.design_ir.specs.PoolRules.{IsPool}
use Rattle.design_ir.specs.Values.{form}
use Rattle.design_ir.specs.Needed.{needed_whole}
use Rattle.flat_design.specs.Growing.{IsMore}
use Rattle.flat_design.specs.Activity.{IsActiveBit, test_holds}
use Rattle.flat_design.specs.Adding.{IsAdded}
use Rattle.flat_design.proofs.Growing.{more_trans, form_more, readable_more}
use Rattle.flat_design.proofs.Added.{added_form, added_more, added_readable}
use Rattle.flat_design.proofs.SourceLists.{if_ok3}
use Rattle.flat_design.proofs.Activities.{form_few, not_below, compared_accepted, compared_active, never_active}
use Rattle.flat_design.proofs.Testing.{plain_form, two_compared, test_more, test_before}
use Rattle.flat_design.proofs.activity.test_bit.Goals as goal

pub returns-then-not-fits-clause-bit : goal.returns-then-not-fits-clause-bit
returns-then-not-fits-clause-bit c =
    let p : Pooled = c.args.pool.now in
    let q : Pooled = c.constant.new.pool in
    let width = ap (λ (f : Form). f.width) (c.width.view_is ∙ c.shape.ensures) in
    let large = not_below c.fits.result c.args.test.number (2 ^ c.width.inside.width) c.if-not-fits.true c.fits.ensures in
    if_ok3 c.constant.result (λ id. IsMore p q) (λ id. IsPool q) (IsAdded q (Const (pos 0) (unsigned 1))) (IsActiveBit q (λ env. test_holds p env c.args.test) (needed_whole p c.args.test.index))
    c.constant.ensures.more c.constant.ensures.rules c.constant.ensures.added
    (λ id more rules added.
    test_before p q c.known.ensures more c.args.test id c.requires
    (never_active q c.args.test id rules (test_more p q c.known.ensures more c.args.test c.requires)
    (subst (λ w. 2 ^ w ≤ c.args.test.number) (width ∙ sym (ap (λ (f : Form). f.width) (form_more p q c.known.ensures more c.args.test.index.0 c.requires.readable.there))) large) added))

pub added-requires-clause-askable : goal.added-requires-clause-askable
added-requires-clause-askable c =
    let p : Pooled = c.args.pool.now in
    let q : Pooled = c.constant-2.new.pool in
    record {
      names = ((readable_more p q c.known.ensures c.in_ok-number.ensures.more c.args.test.index c.requires.readable).there, ((added_readable q _ c.in_ok-number.number c.in_ok-number.ensures.added).there, tt));
      parts = rw c.comparison-op.ensures (two_compared c.args.test.and_above);
    }

pub added-requires-clause-accepted : goal.added-requires-clause-accepted
added-requires-clause-accepted c =
    let p : Pooled = c.args.pool.now in
    let q : Pooled = c.constant-2.new.pool in
    let same = form_more p q c.known.ensures c.in_ok-number.ensures.more c.args.test.index.0 c.requires.readable.there in
    let width = ap (λ (f : Form). f.width) (same ∙ sym (c.width.view_is ∙ c.shape.ensures)) in
    let index : form q c.args.test.index.0 ≡ unsigned c.width.inside.width = plain_form (form q c.args.test.index.0) c.width.inside.width (ap (λ (f : Form). f.signed) same ∙ c.requires.plain) width in
    rw c.comparison-op.ensures (compared_accepted c.args.test.and_above (form q c.args.test.index.0) (form q c.in_ok-number.number.0) c.width.inside.width (form_few c.width.inside.width c.width.inside.signed c.width.invariant) index (added_form q _ c.in_ok-number.number c.in_ok-number.ensures.rules c.in_ok-number.ensures.added))

pub added-requires-clause-resolved : goal.added-requires-clause-resolved
added-requires-clause-resolved c =
    let p : Pooled = c.args.pool.now in
    let q : Pooled = c.constant-2.new.pool in
    rw ((readable_more p q c.known.ensures c.in_ok-number.ensures.more c.args.test.index c.requires.readable).resolved, c.in_ok-number.ensures.added.resolved) refl

pub returns-clause-bit : goal.returns-clause-bit
returns-clause-bit c =
    let p : Pooled = c.args.pool.now in
    let q : Pooled = c.constant-2.new.pool in
    let r : Pooled = c.added.new.pool in
    if_ok3 c.added.result (λ id. IsMore q r) (λ id. IsPool r) (IsAdded r (Binary c.comparison-op.result c.args.test.index c.in_ok-number.number)) (IsActiveBit r (λ env. test_holds p env c.args.test) (needed_whole p c.args.test.index))
    c.added.ensures.more c.added.ensures.rules c.added.ensures.added
    (λ id more rules added.
    let all = more_trans p q r c.in_ok-number.ensures.more more in
    test_before p r c.known.ensures all c.args.test id c.requires
    (compared_active r c.args.test c.width.inside.width c.in_ok-number.number id rules (test_more p r c.known.ensures all c.args.test c.requires)
    (added_more q r _ c.in_ok-number.number c.in_ok-number.ensures.rules more c.in_ok-number.ensures.added)
    (subst (λ op. IsAdded r (Binary op c.args.test.index c.in_ok-number.number) id) c.comparison-op.ensures added)))
