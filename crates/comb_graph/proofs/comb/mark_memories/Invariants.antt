use Rattle.std.proofs.Common.{take}
use Rattle.std.specs.List.{flat_map}
use Rattle.comb_graph.specs.CombTargets.{IsMarked, comb_words}
use Rattle.comb_graph.proofs.comb.mark_memories.Given as goal

abbrev pub invariant-loop-memory : goal.invariant-loop-memory
invariant-loop-memory l = IsMarked (flat_map comb_words (take l.memory-index l.memory-items)) l.fn.signals.items l.signals.items
