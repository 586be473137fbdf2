use Rattle.sim_plans.proofs.Granules.{merged_is, merged_below}
use Rattle.sim_plans.proofs.written.merged.Goals as goal

pub returns-clause-bits : goal.returns-clause-bits
returns-clause-bits c = merged_is c.args.width c.args.row c.args.word c.args.mask c.requires.row

pub returns-clause-below : goal.returns-clause-below
returns-clause-below c = merged_below c.args.width c.args.row c.args.word c.args.mask c.requires.row c.requires.word
