use Rattle.std.proofs.Common.{length}
use Rattle.std.specs.List.{flat_map}
use Rattle.design_ir.specs.declared.process.Process.{Process}
use Rattle.design_ir.specs.Guards.{block_exprs}
use Rattle.fragment_walks.proofs.Lists.{below_split}
use Rattle.domain_transforms.specs.Placed.{memory_exprs}
use Rattle.domain_transforms.proofs.fragments.reset_leaf.Goals as goal

pub reset_processes-requires-clause-there : goal.reset_processes-requires-clause-there
reset_processes-requires-clause-there c =
    (below_split (length c.args.pool.now.exprs) (flat_map (λ (p : Process). block_exprs p.body) c.args.module.now.processes) (flat_map memory_exprs c.args.module.now.memories) c.requires.there).0
