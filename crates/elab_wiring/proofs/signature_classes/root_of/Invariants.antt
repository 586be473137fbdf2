use Rattle.std.proofs.Common.{◌≡◌, ◌+◌, ◌-◌}
use Rattle.py_heap.specs.Heaps.{seen}
use Rattle.elab_wiring.specs.SignatureClasses.{root_in}
use Rattle.elab_wiring.proofs.signature_classes.root_of.Given as goal

abbrev pub invariant-loop-turn : goal.invariant-loop-turn
invariant-loop-turn l = root_in (l.fn.class.0 + 1 - l._turn) (seen l.frozen l.heap) l.at ≡ root_in (l.fn.class.0 + 1) (seen l.frozen l.heap) l.fn.class
