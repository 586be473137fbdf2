use Rattle.std.proofs.Common.{◌≡◌, ◌++◌, take}
use Rattle.std.specs.List.{flat_map}
use Rattle.fragment_walks.specs.Held.{memory_exprs}
use Rattle.fragment_walks.proofs.exprs.add_memories.Given as goal

abbrev pub invariant-loop-memory : goal.invariant-loop-memory
invariant-loop-memory l = l.ids ≡ l.fn.ids ++ flat_map memory_exprs (take l.memory-index l.memories)
