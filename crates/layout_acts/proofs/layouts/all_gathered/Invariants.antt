use Rattle.std.proofs.Common.{◌≡◌, ◌++◌, drop, map}
use Rattle.std.specs.Prelude.{◌||◌}
use Rattle.std.specs.List.{list_any}
use Rattle.py_heap.specs.Heaps.{seen}
use Rattle.layout_acts.specs.Layouts.{is_no_member, has_wide_shape, member_of, reading_of}
use Rattle.layout_acts.proofs.layouts.all_gathered.Given as goal

abbrev pub invariant-loop-m : goal.invariant-loop-m
invariant-loop-m l = record {
  none : list_any (is_no_member (seen l.shown.frozen.now l.shown.heap.now) l.values) (drop l.m-index l.given) ≡ list_any (is_no_member (seen l.shown.frozen.now l.shown.heap.now) l.values) l.given;
  members : l.members ++ map (member_of (seen l.shown.frozen.now l.shown.heap.now) l.values) (drop l.m-index l.given) ≡ map (member_of (seen l.shown.frozen.now l.shown.heap.now) l.values) l.given;
  readings : l.readings ++ map (reading_of l.values) (drop l.m-index l.given) ≡ map (reading_of l.values) l.given;
  wide : (l.wide || list_any (has_wide_shape (seen l.shown.frozen.now l.shown.heap.now) l.values) (drop l.m-index l.given)) ≡ list_any (has_wide_shape (seen l.shown.frozen.now l.shown.heap.now) l.values) l.given;
}
