use Rattle.std.proofs.Common.{◌≡◌, ◌++◌, ◌-◌, length, reverse, drop}
use Rattle.elab_store.proofs.components.push_back.Given as goal

abbrev pub invariant-loop-i : goal.invariant-loop-i
invariant-loop-i l = l.all.items ≡ l.initial.all.items ++ reverse (drop (length l.members - l.i) l.members)
