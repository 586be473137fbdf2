use Rattle.std.proofs.Common.{◌≡◌, ◌-◌, drop, ◌++◌, option_map}
use Rattle.py_heap.specs.Heaps.{seen}
use Rattle.elab_acts.specs.Sides.{equations_in, joined_all}
use Rattle.elab_acts.proofs.sides.+collect.Given as goal

abbrev pub decreases-collect : goal.decreases-collect
decreases-collect l = l.room

abbrev pub invariant-loop-item : goal.invariant-loop-item
invariant-loop-item l =
    option_map (λ qs. l.into.items ++ qs) (joined_all (equations_in (l.fn.room - 1) (seen l.frozen l.heap) l.store) (drop l.item-index l.row))
    ≡ option_map (λ qs. l.fn.into.items ++ qs) (joined_all (equations_in (l.fn.room - 1) (seen l.frozen l.heap) l.store) l.row)
