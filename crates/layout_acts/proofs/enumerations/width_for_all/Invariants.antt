use Rattle.std.proofs.Common.{◌≡◌, ◌≤◌, drop, max}
use Rattle.amh_things.specs.Ranges.{width_for_all}
use Rattle.layout_acts.specs.Enumerations.{numbers_of}
use Rattle.layout_acts.proofs.enumerations.width_for_all.Given as goal

abbrev pub invariant-loop-m : goal.invariant-loop-m
invariant-loop-m l = record {
  widest : max l.width (width_for_all l.signed (numbers_of (drop l.m-index l.members))) ≡ width_for_all l.signed (numbers_of l.members);
  most : l.width ≤ 129;
}
