use Rattle.std.proofs.Common.{◌≡◌, ◌++◌, length, drop}
use Rattle.elab_store.specs.Held.{held_of}
use Rattle.elab_components.specs.Faces.{leaves_made, leaf_ports}
use Rattle.elab_components.proofs.faces.make_leaves.Given as goal

abbrev pub invariant-loop-leaf : goal.invariant-loop-leaf
invariant-loop-leaf l =
    (leaves_made (drop l.leaf-index l.leaves) (held_of l.elaboration) ≡ leaves_made l.leaves (held_of l.fn.elaboration))
    × (l.ports ++ leaf_ports (length l.elaboration.pool.signals) (drop l.leaf-index l.leaves) ≡ l.fn.ports ++ leaf_ports (length l.fn.elaboration.pool.signals) l.leaves)
