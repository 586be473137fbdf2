use Rattle.std.proofs.Common.{◌≡◌, map, take}
use Rattle.py_tree.specs.Programs.{parameter_of}
use Rattle.private_names.proofs.Rows.{parameter_within}
use Rattle.private_names.proofs.class.Class.params.Given as goal

abbrev pub invariant-loop-param : goal.invariant-loop-param
invariant-loop-param l = map parameter_of l.made.items ≡ map (parameter_within l.self.name) (take l.param-index l.param-items)
