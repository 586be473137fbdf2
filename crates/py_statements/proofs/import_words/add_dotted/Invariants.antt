use Rattle.std.proofs.Common.{◌≡◌, ◌++◌, drop}
use Rattle.py_frames.specs.Statements.{with_dots}
use Rattle.py_statements.proofs.import_words.add_dotted.Given as goal

abbrev pub invariant-loop-name : goal.invariant-loop-name
invariant-loop-name l = l.text ++ with_dots (drop l.name-index l.names) ≡ l.fn.text ++ with_dots l.names
