use Rattle.std.proofs.Common.{◌≡◌, map, take}
use Rattle.data_layouts.specs.Layouts.{at_zero}
use Rattle.data_layouts.proofs.layout.at_zero.Given as goal

abbrev pub invariant-loop-m : goal.invariant-loop-m
invariant-loop-m l = l.fields ≡ map at_zero (take l.m-index l.members)
