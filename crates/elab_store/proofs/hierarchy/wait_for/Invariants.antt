use Rattle.std.proofs.Common.{◌≡◌, ◌++◌, ◌-◌, length, reverse, drop}
use Rattle.elab_store.specs.Hierarchies.{numbers_of, waiting_for}
use Rattle.elab_store.proofs.hierarchy.wait_for.Given as goal

abbrev pub invariant-loop-i : goal.invariant-loop-i
invariant-loop-i l =
    l.waiting.items ≡ l.initial.waiting.items ++ reverse (waiting_for l.depth (numbers_of l.of (length l.additions - l.i) (drop (length l.additions - l.i) l.additions)))
