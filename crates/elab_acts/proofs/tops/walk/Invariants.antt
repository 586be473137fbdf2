use Rattle.std.proofs.Common.{◌≡◌, ◌-◌}
use Rattle.py_heap.specs.Heaps.{seen}
use Rattle.elab_store.specs.Held.{held_of}
use Rattle.elab_acts.specs.Tops.{walk, walked}
use Rattle.elab_acts.proofs.tops.walk.Given as goal

abbrev pub invariant-loop-i : goal.invariant-loop-i
invariant-loop-i l = walked (l.room - l.i) (seen l.frozen l.heap) (held_of l.elaboration) ≡ walk (seen l.frozen l.heap) (held_of l.initial.elaboration)
