use Rattle.std.proofs.Common.{◌≡◌, map, drop, false}
use Rattle.py_tree.specs.Programs.{parameter_of}
use Rattle.py_grammar.specs.Shapes.{defaults_last}
use Rattle.py_parser.proofs.params.defaults_last.Given as goal

abbrev pub invariant-loop-param : goal.invariant-loop-param
invariant-loop-param l = defaults_last l.last (map parameter_of (drop l.param-index l.params)) ≡ defaults_last false (map parameter_of l.params)
