use Rattle.std.proofs.Common.{◌≡◌, ◌++◌, drop}
use Rattle.py_frames.specs.Statements.{with_mark}
use Rattle.py_definitions.proofs.class_words.add_marked.Given as goal

abbrev pub invariant-loop-named : goal.invariant-loop-named
invariant-loop-named l = l.all ++ with_mark l.mark (drop l.named-index l.names) ≡ l.fn.all ++ with_mark l.mark l.names
