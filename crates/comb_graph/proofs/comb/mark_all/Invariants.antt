use Rattle.std.proofs.Common.{take}
use Rattle.comb_graph.specs.CombTargets.{IsMarked, numbers}
use Rattle.comb_graph.proofs.comb.mark_all.Given as goal

abbrev pub invariant-loop-e : goal.invariant-loop-e
invariant-loop-e l = IsMarked (numbers (take l.e-index l.items)) l.fn.exprs.items l.exprs.items
