use Rattle.std.proofs.Common.{◌≡◌, ◌≤◌, length, take}
use Rattle.domain_transforms.specs.Enabling.{enabled_memory}
use Rattle.domain_transforms.specs.Making.{each_in}
use Rattle.domain_transforms.proofs.enabling.enabled_memories.Given as goal

abbrev pub invariant-loop-memory : goal.invariant-loop-memory
invariant-loop-memory l = record {
  more : length l.fn.pool.exprs ≤ length l.pool.exprs;
  made : (l.all, l.pool) ≡ each_in (enabled_memory l.controls) l.fn.pool (take l.memory-index l.memory-items);
}
