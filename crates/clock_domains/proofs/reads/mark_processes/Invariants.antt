use Rattle.std.proofs.Common.{◌≡◌, take}
use Rattle.std.specs.List.{flat_map}
use Rattle.design_ir.specs.declared.process.Process.{Process}
use Rattle.fragment_walks.specs.Marks.{marked}
use Rattle.fragment_walks.specs.Reads.{block_targets, block_values}
use Rattle.clock_domains.proofs.reads.mark_processes.Given as goal

abbrev pub invariant-loop-process : goal.invariant-loop-process
invariant-loop-process l = record {
  targets : l.roots.targets.items ≡ marked (flat_map (λ (p : Process). block_targets p.body) (take l.process-index l.processes)) l.fn.roots.targets.items;
  values : l.roots.values.items ≡ marked (flat_map (λ (p : Process). block_values p.body) (take l.process-index l.processes)) l.fn.roots.values.items;
}
