use Rattle.std.proofs.Common.{◌≡◌, take}
use Rattle.data_layouts.specs.Layouts.{one_above, total}
use Rattle.data_layouts.proofs.layout.one_above.Given as goal

abbrev pub invariant-loop-m : goal.invariant-loop-m
invariant-loop-m l = record {
  so_far : l.fields ≡ one_above 0 (take l.m-index l.members);
  low : l.low ≡ total (take l.m-index l.members);
}
