use Rattle.std.proofs.Common.{take}
use Rattle.std.specs.List.{flat_map}
use Rattle.comb_graph.specs.Rules.{Adds, memory_rules}
use Rattle.comb_graph.proofs.reads.add_memories.Given as goal

abbrev pub invariant-loop-memory : goal.invariant-loop-memory
invariant-loop-memory l = Adds l.fn.graph l.graph l.design.pool (flat_map (memory_rules l.design.pool) (take l.memory-index l.memory-items))
