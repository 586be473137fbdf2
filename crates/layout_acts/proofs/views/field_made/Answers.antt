use Rattle.std.proofs.Common.{◌∙◌, ap}
use Rattle.shape_rules.specs.Forms.{Form}
use Rattle.design_ir.specs.Values.{form}
use Rattle.layout_acts.proofs.ViewLaws.{field_plan_drafted, fits}
use Rattle.layout_acts.proofs.views.field_made.Goals as goal

pub returns-then-is_within-clause-drafted : goal.returns-then-is_within-clause-drafted
returns-then-is_within-clause-drafted g c =
    let p = g.P.Exprs.pooled c.args.pool.now in
    let f = c.in-Some.f in
    let within = fits f.low f.shape.width (form p c.args.e.0).width _ _ c.if-is_within.ensures c.width_of.ensures (c.width_of-2.ensures ∙ ap (λ (x : Form). x.width) c.shape.ensures) in
    let made = rw c.requires.ends at c.field_plan.ensures in
    field_plan_drafted p c.args.values.now c.args.e c.requires.there c.field_plan.result f c.note_form.ensures within made
