use Rattle.value_acts.proofs.MatchLaws.{matches_drafted}
use Rattle.value_acts.proofs.matching.matches_called.Goals as goal

pub returns-in-Ok-patterns_meant-clause-drafted : goal.returns-in-Ok-patterns_meant-clause-drafted
returns-in-Ok-patterns_meant-clause-drafted g c =
    let made = rw c.requires.ends at c.matched.ensures in
    matches_drafted (g.P.Exprs.pooled c.args.pool.now) c.args.values.now c.args.e c.requires.there c.matched.result c.in-Ok-patterns_meant.patterns c.in-Ok-patterns_meant.ensures.within made
