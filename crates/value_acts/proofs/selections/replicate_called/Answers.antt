use Rattle.std.proofs.Common.{Some, ap, ◌∙◌}
use Rattle.shape_rules.specs.Forms.{Form}
use Rattle.value_acts.proofs.SelectionLaws.{copies_made_drafted}
use Rattle.value_acts.proofs.selections.replicate_called.Goals as goal

pub returns-in-Some-clause-drafted : goal.returns-in-Some-clause-drafted
returns-in-Some-clause-drafted g c =
    let p = g.P.Exprs.pooled c.args.pool.now in
    copies_made_drafted p c.args.values.now c.args.e c.requires.there c.replicated.result c.args.ends c.width_of.result (Some c.in-Some.n) c.requires.ends (c.width_of.ensures ∙ ap (λ (f : Form). f.width) c.shape-shape.ensures) c.replicated.ensures
