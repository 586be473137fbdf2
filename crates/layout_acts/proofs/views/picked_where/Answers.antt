use Rattle.std.proofs.Common.{◌≡◌, ◌∙◌, false, ap, sym}
use Rattle.shape_rules.specs.Forms.{Form}
use Rattle.design_ir.specs.Values.{form}
use Rattle.layout_acts.specs.Views.{is_unpickable}
use Rattle.layout_acts.proofs.ViewLaws.{items_picked_drafted}
use Rattle.layout_acts.proofs.views.picked_where.Goals as goal

pub returns-clause-drafted : goal.returns-clause-drafted
returns-clause-drafted g c =
    let p = g.P.Exprs.pooled c.args.pool.now in
    let plain : (form p c.args.of.1.0).signed ≡ false = sym (c.if-is_signed.ensures ∙ ap (λ (f : Form). f.signed) c.shape-2.ensures) in
    let wide = c.width_of-width.ensures ∙ ap (λ (f : Form). f.width) c.shape.ensures in
    let fields = c.as_slice-fields.ensures ∙ c.fields.ensures.value in
    let fits : is_unpickable (form p c.args.of.0.0).width c.in-Some.first.shape.width c.args.l.now.layout.fields ≡ false =
    sym (c.if-is_unpickable.ensures ∙ (λ i. is_unpickable (wide i) (c.width_of.ensures i) (fields i))) in
    let made = rw (c.requires.ends, c.as_slice-fields.ensures, c.fields.ensures.value) at c.item_plan.ensures in
    items_picked_drafted p c.args.values.now c.args.of.0 c.args.of.1 c.args.l.now c.in-Some.first c.item_plan.result c.requires.there c.requires.index plain c.note_form.ensures c.in-Some.ensures fits made
