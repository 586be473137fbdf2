use Rattle.std.proofs.Common.{◌≡◌, ◌++◌, drop}
use Rattle.std.specs.Prelude.{◌||◌}
use Rattle.std.specs.List.{flat_map, list_any}
use Rattle.py_heap.specs.Heaps.{seen}
use Rattle.value_acts.specs.Joins.{part_values, is_long}
use Rattle.value_acts.proofs.joins.parts_of.Given as goal

abbrev pub invariant-loop-v : goal.invariant-loop-v
invariant-loop-v l = record {
  vals : l.vals ++ flat_map (part_values (seen l.shown.frozen.now l.shown.heap.now)) (drop l.v-index l.args) ≡ flat_map (part_values (seen l.shown.frozen.now l.shown.heap.now)) l.args;
  long : (l.long || list_any (is_long (seen l.shown.frozen.now l.shown.heap.now)) (drop l.v-index l.args)) ≡ list_any (is_long (seen l.shown.frozen.now l.shown.heap.now)) l.args;
}
