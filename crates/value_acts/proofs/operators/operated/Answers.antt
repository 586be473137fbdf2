use Rattle.std.proofs.Common.{sym}
use Rattle.value_acts.proofs.OperatorLaws.{unary_drafted}
use Rattle.value_acts.proofs.operators.operated.Goals as goal

pub returns-in-len1-clause-drafted : goal.returns-in-len1-clause-drafted
returns-in-len1-clause-drafted g c =
    unary_drafted (g.P.Exprs.pooled c.args.pool.now) c.args.values.now _ c.args.sign.now _ c.operand_of-x.ensures.sound (rw (sym c.requires.ends) c.unary_where.ensures)
