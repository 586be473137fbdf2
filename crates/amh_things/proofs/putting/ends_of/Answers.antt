use Rattle.std.proofs.Common.{arith}
use Rattle.amh_things.proofs.putting.ends_of.Goals as goal

pub of-requires : goal.of-requires
of-requires g c = (omega (arith, c.count.ensures.value, c.count.ensures.rules.few_exprs), omega arith)
