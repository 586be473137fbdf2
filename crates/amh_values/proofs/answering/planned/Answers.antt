use Rattle.amh_values.proofs.CallLaws.{things_drafted}
use Rattle.amh_values.proofs.answering.planned.Goals as goal

pub returns-in-ClassMade-clause-drafted : goal.returns-in-ClassMade-clause-drafted
returns-in-ClassMade-clause-drafted g c = things_drafted (g.P.Exprs.pooled c.args.pool.now) c.class_made.result c.class_made.ensures.things
