use Rattle.std.proofs.Common.{◌≡◌, take}
use Rattle.elab_store.proofs.components.copied.Given as goal

abbrev pub invariant-loop-m : goal.invariant-loop-m
invariant-loop-m l = l.all ≡ take l.m-index l.members
