use Rattle.std.proofs.Common.{◌≡◌, ◌++◌, drop}
use Rattle.py_frames.specs.Statements.{bound_names}
use Rattle.py_definitions.proofs.class_words.listed.Given as goal

abbrev pub invariant-loop-i : goal.invariant-loop-i
invariant-loop-i l = l.names ++ bound_names (drop l.i l.bindings) ≡ bound_names l.bindings
