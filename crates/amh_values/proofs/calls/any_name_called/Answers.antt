use Rattle.amh_values.proofs.CallLaws.{things_drafted}
use Rattle.amh_values.proofs.calls.any_name_called.Goals as goal

pub returns-in-Array-clause-drafted : goal.returns-in-Array-clause-drafted
returns-in-Array-clause-drafted g c = things_drafted (g.P.Exprs.pooled c.args.pool.now) c.array_called.result c.array_called.ensures.things

pub returns-in-StructLayout-clause-drafted : goal.returns-in-StructLayout-clause-drafted
returns-in-StructLayout-clause-drafted g c = things_drafted (g.P.Exprs.pooled c.args.pool.now) c.members_called.result c.members_called.ensures.things

pub returns-in-UnionLayout-clause-drafted : goal.returns-in-UnionLayout-clause-drafted
returns-in-UnionLayout-clause-drafted g c = things_drafted (g.P.Exprs.pooled c.args.pool.now) c.members_called-in-UnionLayout.result c.members_called-in-UnionLayout.ensures.things

pub returns-in-ArrayLayout-clause-drafted : goal.returns-in-ArrayLayout-clause-drafted
returns-in-ArrayLayout-clause-drafted g c = things_drafted (g.P.Exprs.pooled c.args.pool.now) c.array_called-in-ArrayLayout.result c.array_called-in-ArrayLayout.ensures.things
