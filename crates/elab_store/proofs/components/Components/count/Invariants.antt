use Rattle.std.proofs.Common.{◌≡◌, ◌+◌, length, drop, [], false}
use Rattle.elab_store.specs.Leaves.{leaves_in, all_leaves, cut}
use Rattle.elab_store.proofs.components.Components.count.Given as goal

abbrev pub invariant-loop-m : goal.invariant-loop-m
invariant-loop-m l =
    (cut l.total ≡ l.total)
    × (cut (l.total + length (all_leaves (leaves_in (length l.self.signatures) l.self.signatures) false [] (drop l.m-index l.members)))
    ≡ cut (length (all_leaves (leaves_in (length l.self.signatures) l.self.signatures) false [] l.members)))
