use Rattle.std.proofs.Common.{map}
use Rattle.fragment_walks.specs.Held.{leaf_exprs}
use Rattle.fragment_walks.specs.Names.{all_leaves}
use Rattle.clock_domains.proofs.resolving.resolve.Given as goal

abbrev pub ghost-placed_domains : goal.ghost-placed_domains
ghost-placed_domains a = map leaf_exprs (all_leaves a.root.now)
