use Rattle.std.proofs.Common.{◌≡◌, map, drop}
use Rattle.py_tree.specs.Programs.{parameter_of}
use Rattle.py_grammar.specs.Shapes.{star_fits}
use Rattle.py_parser.proofs.params.star_fits.Given as goal

abbrev pub invariant-loop-index : goal.invariant-loop-index
invariant-loop-index l = star_fits (map parameter_of (drop l.index l.params)) ≡ star_fits (map parameter_of l.params)
