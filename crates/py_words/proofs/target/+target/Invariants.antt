use Rattle.std.proofs.Common.{◌≡◌, map, drop}
use Rattle.py_tree.specs.Tree.{trees}
use Rattle.py_tree.specs.Seen.{tree}
use Rattle.py_grammar.specs.Seen.{are_targets}
use Rattle.py_words.proofs.target.+target.Given as goal

abbrev pub invariant-are_targets-loop-item : goal.invariant-are_targets-loop-item
invariant-are_targets-loop-item l = are_targets (trees (map tree (drop l.item-index l.items))) ≡ are_targets (trees (map tree l.items))
