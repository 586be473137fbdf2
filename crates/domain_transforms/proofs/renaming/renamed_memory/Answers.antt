use Rattle.std.proofs.Common.{length}
use Rattle.std.specs.List.{flat_map}
use Rattle.fragment_walks.proofs.Lists.{below_split}
use Rattle.domain_transforms.specs.Placed.{write_exprs, read_exprs}
use Rattle.domain_transforms.proofs.renaming.renamed_memory.Goals as goal

pub renamed_writes-requires : goal.renamed_writes-requires
renamed_writes-requires c = (below_split (length c.args.ids.now) (flat_map write_exprs c.args.memory.now.writes) (flat_map read_exprs c.args.memory.now.reads) c.requires).0

pub renamed_reads-requires : goal.renamed_reads-requires
renamed_reads-requires c = (below_split (length c.args.ids.now) (flat_map write_exprs c.args.memory.now.writes) (flat_map read_exprs c.args.memory.now.reads) c.requires).1
