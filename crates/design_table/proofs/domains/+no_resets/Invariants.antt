use Rattle.std.proofs.Common.{length}
use Rattle.design_table.proofs.domains.+no_resets.Given as goal

abbrev pub decreases-no_resets : goal.decreases-no_resets
decreases-no_resets l = length l.domains.now
