use Rattle.std.proofs.Common.{◌≡◌, length, take}
use Rattle.elab_store.specs.Hierarchies.{numbers_of}
use Rattle.elab_store.proofs.hierarchy.child_count.Given as goal

abbrev pub invariant-loop-a : goal.invariant-loop-a
invariant-loop-a l = l.count ≡ length (numbers_of l.of 0 (take l.a-index l.additions))
