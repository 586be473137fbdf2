use Rattle.std.proofs.Common.{◌≡◌, ◌++◌, drop}
use Rattle.py_frames.specs.Values.{named_vals}
use Rattle.py_definitions.proofs.class_words.add_vals.Given as goal

abbrev pub invariant-loop-named : goal.invariant-loop-named
invariant-loop-named l = l.vals ++ named_vals (drop l.named-index l.names) ≡ l.fn.vals ++ named_vals l.names
