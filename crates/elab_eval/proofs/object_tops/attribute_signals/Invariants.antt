use Rattle.std.proofs.Common.{◌≡◌, ◌++◌, length}
use Rattle.py_heap.specs.Heaps.{seen}
use Rattle.elab_eval.specs.ObjectTops.{attribute_signals}
use Rattle.elab_store.specs.Held.{held_of}
use Rattle.elab_eval.proofs.object_tops.attribute_signals.Given as goal

abbrev pub invariant-loop-rest : goal.invariant-loop-rest
invariant-loop-rest l =
    l.found.items ++ attribute_signals (seen l.frozen l.heap) (held_of l.elaboration) l.rest ≡ attribute_signals (seen l.frozen l.heap) (held_of l.elaboration) l.row

abbrev pub decreases-loop-rest : goal.decreases-loop-rest
decreases-loop-rest l = length l.rest
