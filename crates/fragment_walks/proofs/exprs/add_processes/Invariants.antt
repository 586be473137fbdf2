use Rattle.std.proofs.Common.{◌≡◌, ◌++◌, take}
use Rattle.std.specs.List.{flat_map}
use Rattle.design_ir.specs.declared.process.Process.{Process}
use Rattle.design_ir.specs.Guards.{block_exprs}
use Rattle.fragment_walks.proofs.exprs.add_processes.Given as goal

abbrev pub invariant-loop-process : goal.invariant-loop-process
invariant-loop-process l = l.ids ≡ l.fn.ids ++ flat_map (λ (p : Process). block_exprs p.body) (take l.process-index l.processes)
