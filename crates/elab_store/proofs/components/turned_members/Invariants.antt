use Rattle.std.proofs.Common.{◌≡◌, take}
use Rattle.elab_store.specs.Components.{turned_members}
use Rattle.elab_store.proofs.components.turned_members.Given as goal

abbrev pub invariant-loop-m : goal.invariant-loop-m
invariant-loop-m l = l.all ≡ turned_members (take l.m-index l.members)
