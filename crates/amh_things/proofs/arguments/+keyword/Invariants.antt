use Rattle.std.proofs.Common.{length}
use Rattle.amh_things.proofs.arguments.+keyword.Given as goal

abbrev pub decreases-keyword : goal.decreases-keyword
decreases-keyword l = length l.keys.now
