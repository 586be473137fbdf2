use Rattle.std.proofs.Common.{arith}
use Rattle.amh_things.proofs.RangeLaws.{rest_low, rest_high}
use Rattle.amh_things.proofs.ranges.rest_of.Goals as goal

pub returns-then-a-size-clause-value : goal.returns-then-a-size-clause-value
returns-then-a-size-clause-value c = rest_high c.args.a c.args.b c.args.size c.requires (omega arith)

pub returns-else-a-size-clause-value : goal.returns-else-a-size-clause-value
returns-else-a-size-clause-value c = rest_low c.args.a c.args.b c.args.size (omega arith)
