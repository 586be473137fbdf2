use Rattle.std.proofs.Common.{length}
use Rattle.std.specs.List.{flat_map}
use Rattle.design_ir.specs.declared.process.Process.{Process}
use Rattle.design_ir.specs.Guards.{block_exprs}
use Rattle.fragment_walks.proofs.Lists.{below_split}
use Rattle.domain_transforms.specs.Placed.{memory_exprs}
use Rattle.domain_transforms.proofs.fragments.renamed_leaf.Goals as goal

pub renamed_processes-requires : goal.renamed_processes-requires
renamed_processes-requires c = (below_split (length c.args.ids.now) (flat_map (λ (p : Process). block_exprs p.body) c.args.module.now.processes) (flat_map memory_exprs c.args.module.now.memories) c.requires).0

pub renamed_memories-requires : goal.renamed_memories-requires
renamed_memories-requires c = (below_split (length c.args.ids.now) (flat_map (λ (p : Process). block_exprs p.body) c.args.module.now.processes) (flat_map memory_exprs c.args.module.now.memories) c.requires).1
