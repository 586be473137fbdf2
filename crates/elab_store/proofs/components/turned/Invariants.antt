use Rattle.std.proofs.Common.{◌≡◌, ◌++◌, reverse, vec_len}
use Rattle.elab_store.proofs.components.turned.Given as goal

abbrev pub invariant-loop-m : goal.invariant-loop-m
invariant-loop-m l = l.all ++ reverse l.members.items ≡ reverse l.initial.members.items

abbrev pub decreases-loop-m : goal.decreases-loop-m
decreases-loop-m l = vec_len l.members
