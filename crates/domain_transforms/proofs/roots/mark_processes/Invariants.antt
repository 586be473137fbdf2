use Rattle.std.proofs.Common.{◌≡◌, take}
use Rattle.std.specs.List.{flat_map}
use Rattle.fragment_walks.specs.Marks.{marked, numbers}
use Rattle.design_ir.specs.declared.process.Process.{Process}
use Rattle.design_ir.specs.Guards.{block_exprs}
use Rattle.domain_transforms.proofs.roots.mark_processes.Given as goal

abbrev pub invariant-loop-process : goal.invariant-loop-process
invariant-loop-process l = l.marks.items ≡ marked (numbers (flat_map (λ (p : Process). block_exprs p.body) (take l.process-index l.processes))) l.fn.marks.items
