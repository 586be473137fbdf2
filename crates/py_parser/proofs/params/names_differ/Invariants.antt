use Rattle.std.proofs.Common.{◌≡◌, map, drop}
use Rattle.py_tree.specs.Programs.{parameter_of}
use Rattle.py_grammar.specs.Shapes.{names_differ}
use Rattle.py_parser.proofs.params.names_differ.Given as goal

abbrev pub invariant-loop-index : goal.invariant-loop-index
invariant-loop-index l = names_differ (map parameter_of (drop l.index l.params)) ≡ names_differ (map parameter_of l.params)
