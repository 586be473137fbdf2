use Rattle.std.proofs.Common.{◌≡◌, ◌++◌, drop}
use Rattle.std.specs.List.{flat_map, list_all}
use Rattle.py_heap.specs.Heaps.{seen}
use Rattle.amh_things.specs.Patterns.{is_pattern, patterns_of, AreWithin}
use Rattle.amh_things.proofs.patterns.patterns_meant.Given as goal

abbrev pub invariant-loop-v : goal.invariant-loop-v
invariant-loop-v l = record {
  all : l.all ++ flat_map (patterns_of (seen l.frozen l.heap) l.fn.shape) (drop l.v-index l.vals) ≡ flat_map (patterns_of (seen l.frozen l.heap) l.fn.shape) l.vals;
  are : list_all (is_pattern (seen l.frozen l.heap) l.fn.shape.width) (drop l.v-index l.vals) ≡ list_all (is_pattern (seen l.frozen l.heap) l.fn.shape.width) l.vals;
  within : AreWithin l.all;
}
