use Rattle.std.proofs.Common.{◌≡◌, ◌≤◌, take}
use Rattle.data_layouts.specs.Layouts.{total}
use Rattle.data_layouts.proofs.layout.total.Given as goal

abbrev pub invariant-loop-m : goal.invariant-loop-m
invariant-loop-m l = record {
  so_far : l.width ≡ total (take l.m-index l.members);
  most : l.width ≤ 128;
}
