use Rattle.std.proofs.Common.{◌≡◌, drop}
use Rattle.py_walks.specs.Binding_all.{attributes_set}
use Rattle.py_walks.proofs.bound_names.attributes_set.Given as goal

abbrev pub invariant-loop-x : goal.invariant-loop-x
invariant-loop-x l = attributes_set l.frozen l.o.0 l.heap (drop l.x-index l.names) ≡ attributes_set l.frozen l.o.0 l.initial.heap l.names
