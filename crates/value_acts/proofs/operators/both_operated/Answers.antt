use Rattle.std.proofs.Common.{sym}
use Rattle.value_acts.proofs.OperatorLaws.{binary_drafted}
use Rattle.value_acts.proofs.operators.both_operated.Goals as goal

pub returns-clause-planned : goal.returns-clause-planned
returns-clause-planned g c =
    let made = rw (c.requires.ends, c.operand_of-x.ensures.value, c.operand_of-y.ensures.value) at c.binary_where-made.ensures in
    rw (← c.compared-equal.ensures) (c.unless_compared.ensures.is _ made)

pub returns-clause-drafted : goal.returns-clause-drafted
returns-clause-drafted g c = c.unless_compared.ensures.drafted (g.P.Exprs.pooled c.args.pool.now) (
    binary_drafted (g.P.Exprs.pooled c.args.pool.now) c.args.values.now _ c.args.sign.now _ _ c.operand_of-x.ensures.sound c.operand_of-y.ensures.sound (rw (sym c.requires.ends) c.binary_where-made.ensures))
