use Rattle.std.proofs.Common.{◌≡◌, ◌++◌}
use Rattle.elab_store.specs.Leaves.{leaves}
use Rattle.elab_store.specs.LeafWalks.{walk_leaves, walk_steps}
use Rattle.elab_store.proofs.components.Components.leaves.Given as goal

abbrev pub invariant-loop-rest : goal.invariant-loop-rest
invariant-loop-rest l = l.found ++ walk_leaves l.self.signatures l.walk.items ≡ leaves l.self.signatures l.turned l.prefix l.signature

abbrev pub decreases-loop-rest : goal.decreases-loop-rest
decreases-loop-rest l = walk_steps l.self.signatures l.walk.items
