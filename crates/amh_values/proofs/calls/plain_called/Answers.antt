use Rattle.amh_values.proofs.CallLaws.{method_drafted}
use Rattle.amh_values.proofs.calls.plain_called.Goals as goal

pub returns-clause-drafted : goal.returns-clause-drafted
returns-clause-drafted g c =
    let p = g.P.Exprs.pooled c.args.pool.now in
    let made = rw c.requires.ends at c.method_plan.ensures in
    method_drafted p c.args.values.now c.args.of.0 c.shape-shape.result c.requires.there c.shape-shape.ensures c.note_form.ensures c.method_plan.result c.args.of.1 made
