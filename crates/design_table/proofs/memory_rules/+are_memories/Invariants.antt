use Rattle.std.proofs.Common.{length}
use Rattle.design_table.proofs.memory_rules.+are_memories.Given as goal

abbrev pub decreases-are_memories : goal.decreases-are_memories
decreases-are_memories l = length l.memories.now
