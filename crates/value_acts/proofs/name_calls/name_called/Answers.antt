use Rattle.value_acts.proofs.NameLaws.{constant_drafted}
use Rattle.value_acts.proofs.name_calls.name_called.Goals as goal

pub returns-in-Const-clause-drafted : goal.returns-in-Const-clause-drafted
returns-in-Const-clause-drafted g c =
    let p = g.P.Exprs.pooled c.args.pool.now in
    constant_drafted p c.args.values.now c.constant_called.result (rw c.requires.ends at c.constant_called.ensures.constant)
