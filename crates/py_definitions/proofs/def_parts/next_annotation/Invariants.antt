use Rattle.std.proofs.Common.{◌≡◌, map}
use Rattle.py_tree.specs.Programs.{parameter_of}
use Rattle.py_frames.specs.Def_frames.{parameters_from}
use Rattle.py_definitions.specs.Def_begun.{first_annotation}
use Rattle.py_definitions.proofs.def_parts.next_annotation.Given as goal

abbrev pub invariant-loop-i : goal.invariant-loop-i
invariant-loop-i l = first_annotation l.n (parameters_from l.n (map parameter_of l.params.items)) ≡ first_annotation l.i (parameters_from l.i (map parameter_of l.params.items))
