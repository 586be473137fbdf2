use Rattle.std.proofs.Common.{length}
use Rattle.design_table.proofs.memory_rules.+are_reads.Given as goal

abbrev pub decreases-are_reads : goal.decreases-are_reads
decreases-are_reads l = length l.ports.now
