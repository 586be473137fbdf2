use Rattle.std.proofs.Common.{◌≡◌, drop}
use Rattle.py_heap.specs.Objects.{names_listed}
use Rattle.py_heap.proofs.objects.list_names.Given as goal

abbrev pub invariant-loop-i : goal.invariant-loop-i
invariant-loop-i l =
    names_listed l.before l.texts l.row (drop l.i l.bindings) ≡ names_listed l.before l.fn.texts l.fn.row l.bindings
