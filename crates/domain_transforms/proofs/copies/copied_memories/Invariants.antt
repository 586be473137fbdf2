use Rattle.std.proofs.Common.{◌≡◌, take}
use Rattle.domain_transforms.proofs.copies.copied_memories.Given as goal

abbrev pub invariant-loop-memory : goal.invariant-loop-memory
invariant-loop-memory l = l.copy ≡ take l.memory-index l.memory-items
