use Rattle.std.proofs.Common.{◌≡◌, map, drop}
use Rattle.std.specs.List.{list_any}
use Rattle.py_tree.specs.Programs.{parameter_of}
use Rattle.py_grammar.specs.Shapes.{has_name}
use Rattle.py_parser.proofs.params.some_name.Given as goal

abbrev pub invariant-loop-param : goal.invariant-loop-param
invariant-loop-param l = list_any (has_name l.this) (map parameter_of (drop l.param-index l.params)) ≡ list_any (has_name l.this) (map parameter_of l.params)
