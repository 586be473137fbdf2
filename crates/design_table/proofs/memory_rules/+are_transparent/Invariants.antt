use Rattle.std.proofs.Common.{length}
use Rattle.design_table.proofs.memory_rules.+are_transparent.Given as goal

abbrev pub decreases-are_transparent : goal.decreases-are_transparent
decreases-are_transparent l = length l.ports.now
