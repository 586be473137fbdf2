use Rattle.std.proofs.Common.{length}
use Rattle.design_table.proofs.memory_rules.+are_of.Given as goal

abbrev pub decreases-are_of : goal.decreases-are_of
decreases-are_of l = length l.numbers.now
