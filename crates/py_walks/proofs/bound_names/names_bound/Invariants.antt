use Rattle.std.proofs.Common.{◌≡◌, drop}
use Rattle.py_walks.specs.Binding_all.{names_bound}
use Rattle.py_walks.proofs.bound_names.names_bound.Given as goal

abbrev pub invariant-loop-x : goal.invariant-loop-x
invariant-loop-x l = names_bound l.frozen l.scope.0 l.heap (drop l.x-index l.names) ≡ names_bound l.frozen l.scope.0 l.initial.heap l.names
