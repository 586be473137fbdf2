use Rattle.std.proofs.Common.{take}
use Rattle.comb_graph.specs.Rules.{Adds, all_rules, comb_assignments}
use Rattle.comb_graph.proofs.needs.add_processes.Given as goal

abbrev pub invariant-loop-process : goal.invariant-loop-process
invariant-loop-process l = Adds l.fn.graph l.graph l.design.pool (all_rules l.design.pool (comb_assignments (take l.process-index l.process-items)))
