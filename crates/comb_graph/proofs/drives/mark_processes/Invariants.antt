use Rattle.std.proofs.Common.{take}
use Rattle.std.specs.List.{flat_map}
use Rattle.comb_graph.specs.CombTargets.{IsMarked, comb_targets}
use Rattle.comb_graph.proofs.drives.mark_processes.Given as goal

abbrev pub invariant-loop-process : goal.invariant-loop-process
invariant-loop-process l = IsMarked (flat_map comb_targets (take l.process-index l.process-items)) l.fn.exprs.items l.exprs.items
