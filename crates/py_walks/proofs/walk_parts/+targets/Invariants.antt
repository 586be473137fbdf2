-- The names of the targets behind those that were gone over are still to come.
use Rattle.std.proofs.Common.{◌≡◌, ◌++◌, map, drop}
use Rattle.py_tree.specs.Tree.{trees}
use Rattle.py_tree.specs.Seen.{tree}
use Rattle.py_frames.specs.Own.{targets_names}
use Rattle.py_walks.proofs.walk_parts.+targets.Given as goal

abbrev pub invariant-add_all_names-loop-e : goal.invariant-add_all_names-loop-e
invariant-add_all_names-loop-e l = l.names ++ targets_names (trees (map tree (drop l.e-index l.items))) ≡ l.initial.names ++ targets_names (trees (map tree l.items))
