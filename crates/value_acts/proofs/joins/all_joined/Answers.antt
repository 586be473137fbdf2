use Rattle.value_acts.proofs.JoinLaws.{cat_drafted}
use Rattle.value_acts.proofs.joins.all_joined.Goals as goal

pub returns-in-Ok-Some-clause-drafted : goal.returns-in-Ok-Some-clause-drafted
returns-in-Ok-Some-clause-drafted g c =
    let p = g.P.Exprs.pooled c.args.pool.now in
    let sound = rw c.in-Ok-Some.field-0-is at c.in-Ok-Some.ensures.sound in
    let made = rw (c.requires.ends, c.as_slice-in-Ok-Some.ensures) at c.joined_where.ensures in
    cat_drafted p c.args.values.now c.joined_where.result c.args.parts.now.long c.in-Ok-Some.xs sound made
