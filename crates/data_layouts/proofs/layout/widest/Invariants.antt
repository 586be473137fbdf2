use Rattle.std.proofs.Common.{◌≡◌, ◌≤◌, take}
use Rattle.data_layouts.specs.Layouts.{widest}
use Rattle.data_layouts.proofs.layout.widest.Given as goal

abbrev pub invariant-loop-m : goal.invariant-loop-m
invariant-loop-m l = record {
  so_far : l.width ≡ widest (take l.m-index l.members);
  most : l.width ≤ 128;
}
