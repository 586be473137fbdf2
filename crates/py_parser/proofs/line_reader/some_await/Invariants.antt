use Rattle.std.proofs.Common.{◌≡◌, drop}
use Rattle.py_grammar.specs.Shapes.{awaits}
use Rattle.py_parser.proofs.line_reader.some_await.Given as goal

abbrev pub invariant-loop-word : goal.invariant-loop-word
invariant-loop-word l = awaits (drop l.word-index l.words) ≡ awaits l.words
