use Rattle.value_acts.proofs.NameLaws.{mux_drafted}
use Rattle.value_acts.proofs.name_calls.mux_called.Goals as goal

pub returns-clause-drafted : goal.returns-clause-drafted
returns-clause-drafted g c =
    let p = g.P.Exprs.pooled c.args.pool.now in
    let made = rw c.requires.ends at c.mux_where.ensures in
    mux_drafted p c.args.values.now c.mux_where.result _ _ _ c.operand_in-s.ensures.sound c.operand_in-x.ensures.sound c.operand_in-y.ensures.sound made
