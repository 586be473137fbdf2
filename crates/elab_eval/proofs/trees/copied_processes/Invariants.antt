use Rattle.std.proofs.Common.{◌≡◌, take}
use Rattle.elab_eval.proofs.trees.copied_processes.Given as goal

abbrev pub invariant-loop-process : goal.invariant-loop-process
invariant-loop-process l = l.all ≡ take l.process-index l.processes
