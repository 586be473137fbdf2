use Rattle.std.proofs.Common.{◌≡◌, take}
use Rattle.data_layouts.proofs.enumeration.all_copied.Given as goal

abbrev pub invariant-loop-m : goal.invariant-loop-m
invariant-loop-m l = l.all ≡ take l.m-index l.members
