use Rattle.std.proofs.Common.{length}
use Rattle.std.specs.List.{flat_map}
use Rattle.fragment_walks.proofs.Lists.{below_split, below_wider}
use Rattle.domain_transforms.specs.Placed.{write_exprs, read_exprs}
use Rattle.domain_transforms.proofs.PlacedLaws.{controls_wider}
use Rattle.domain_transforms.proofs.enabling.enabled_memory.Goals as goal

pub enabled_writes-requires-clause-there : goal.enabled_writes-requires-clause-there
enabled_writes-requires-clause-there c = (below_split (length c.args.pool.now.exprs) (flat_map write_exprs c.args.memory.now.writes) (flat_map read_exprs c.args.memory.now.reads) c.requires.there).0

pub enabled_reads-requires-clause-controls : goal.enabled_reads-requires-clause-controls
enabled_reads-requires-clause-controls c = controls_wider (length c.args.pool.now.exprs) (length c.enabled_writes.new.pool.exprs) c.args.controls.now c.in_ok-writes.ensures.more c.requires.controls

pub enabled_reads-requires-clause-there : goal.enabled_reads-requires-clause-there
enabled_reads-requires-clause-there c =
    below_wider (length c.args.pool.now.exprs) (length c.enabled_writes.new.pool.exprs) (flat_map read_exprs c.args.memory.now.reads) c.in_ok-writes.ensures.more
    (below_split (length c.args.pool.now.exprs) (flat_map write_exprs c.args.memory.now.writes) (flat_map read_exprs c.args.memory.now.reads) c.requires.there).1
