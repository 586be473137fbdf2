use Rattle.std.proofs.Common.{◌≡◌, ◌≤◌, ◌-◌, [], length}
use Rattle.std.specs.Prelude.{codes}
use Rattle.py_grammar.specs.Words.{name_of, next_sign}
use Rattle.py_grammar.specs.Readers.{repeat, made, one, sign, ◌▹◌}
use Rattle.py_grammar.specs.Line_reading.{and_then}
use Rattle.py_parser.specs.Line_forms.{name_behind}
use Rattle.py_parser.proofs.imports.read_dots.Given as goal

abbrev pub invariant-loop-turn : goal.invariant-loop-turn
invariant-loop-turn l = record {
  reads : repeat (next_sign (codes ".")) (made name_behind (sign (codes ".") ▹ one name_of)) and_then (length l.words - l._turn) l.path.items l.rest ≡ repeat (next_sign (codes ".")) (made name_behind (sign (codes ".") ▹ one name_of)) and_then (length l.words) [] l.words;
  shorter : length l.rest ≤ length l.words;
}
