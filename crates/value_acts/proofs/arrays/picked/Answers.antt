use Rattle.std.proofs.Common.{◌≡◌, ◌<◌, ◌∙◌, false, length, ap, sym}
use Rattle.shape_rules.specs.Forms.{Form}
use Rattle.design_ir.specs.Values.{form}
use Rattle.value_acts.proofs.ArrayLaws.{picked_drafted}
use Rattle.amh_things.proofs.PutLaws.{held_expr_below}
use Rattle.value_acts.proofs.arrays.picked.Goals as goal

pub returns-in-Ok-Some-clause-drafted : goal.returns-in-Ok-Some-clause-drafted
returns-in-Ok-Some-clause-drafted g c =
    let p = g.P.Exprs.pooled c.args.pool.now in
    let there : c.in-Some.e.0 < length p.exprs = held_expr_below _ c.args.values.now c.args.hw.0 _ c.requires.held (sym c.in-Some.ensures) in
    let plain : (form p c.in-Some.e.0).signed ≡ false = sym (c.if-is_signed.ensures ∙ ap (λ (f : Form). f.signed) c.shape.ensures) in
    let sound = rw c.in-Ok-Some.field-0-is at c.in-Ok-Some.ensures.sound in
    let made = rw (c.requires.ends, c.as_slice.ensures) at c.picked_where.ensures in
    picked_drafted p c.args.values.now c.in-Some.e there plain c.picked_where.result c.in-Ok-Some.xs sound made
