use Rattle.std.proofs.Common.{length}
use Rattle.design_table.proofs.memory_rules.+are_writes.Given as goal

abbrev pub decreases-are_writes : goal.decreases-are_writes
decreases-are_writes l = length l.ports.now
