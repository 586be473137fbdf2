use Rattle.std.proofs.Common.{take}
use Rattle.std.specs.List.{flat_map}
use Rattle.comb_graph.specs.CombTargets.{IsMarked, comb_word}
use Rattle.comb_graph.proofs.comb.mark_reads.Given as goal

abbrev pub invariant-loop-read : goal.invariant-loop-read
invariant-loop-read l = IsMarked (flat_map comb_word (take l.read-index l.reads)) l.fn.signals.items l.signals.items
