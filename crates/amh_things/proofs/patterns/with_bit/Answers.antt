use Rattle.std.proofs.Common.{arith}
use Rattle.amh_things.proofs.PatternLaws.{doubled_fits}
use Rattle.amh_things.proofs.patterns.with_bit.Goals as goal

pub overflow_mul-result : goal.overflow_mul-result
overflow_mul-result c = omega (arith, doubled_fits c.args.bits c.args.count c.requires.few c.requires.below)

pub overflow_add-result : goal.overflow_add-result
overflow_add-result c = omega (arith, doubled_fits c.args.bits c.args.count c.requires.few c.requires.below)

pub overflow_mul-result-else-bit : goal.overflow_mul-result-else-bit
overflow_mul-result-else-bit c = omega (arith, doubled_fits c.args.bits c.args.count c.requires.few c.requires.below)
