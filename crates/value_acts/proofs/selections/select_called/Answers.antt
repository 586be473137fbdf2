use Rattle.value_acts.proofs.SelectionLaws.{part_drafted}
use Rattle.value_acts.proofs.selections.select_called.Goals as goal

pub returns-clause-drafted : goal.returns-clause-drafted
returns-clause-drafted g c =
    let p = g.P.Exprs.pooled c.args.pool.now in
    let made = rw c.requires.ends at c.selected.ensures in
    part_drafted p c.args.values.now c.args.of.0 c.requires.there c.selected.result c.args.of.1 _ _ c.operand_in-x.ensures.sound made
