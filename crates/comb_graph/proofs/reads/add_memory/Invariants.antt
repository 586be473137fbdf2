use Rattle.std.proofs.Common.{take}
use Rattle.std.specs.List.{flat_map}
use Rattle.comb_graph.specs.Rules.{Adds, read_rules}
use Rattle.comb_graph.proofs.reads.add_memory.Given as goal

abbrev pub invariant-loop-read : goal.invariant-loop-read
invariant-loop-read l = Adds l.fn.graph l.graph l.design.pool (flat_map (read_rules l.design.pool) (take l.read-index l.read-items))
