use Rattle.std.proofs.Common.{◌≡◌, ◌≤◌, ◌-◌, [], length, map}
use Rattle.std.specs.Prelude.{codes}
use Rattle.py_tree.specs.Seen.{tree}
use Rattle.py_grammar.specs.Words.{next_sign}
use Rattle.py_grammar.specs.Readers.{repeat, sign, ◌▹◌}
use Rattle.py_grammar.specs.Reading.{inner}
use Rattle.py_grammar.specs.Line_reading.{exprs}
use Rattle.py_parser.specs.Line_forms.{one_more}
use Rattle.py_parser.proofs.simple.read_values.Given as goal

abbrev pub invariant-loop-turn : goal.invariant-loop-turn
invariant-loop-turn l = record {
  reads : repeat (next_sign (codes "=")) (sign (codes "=") ▹ exprs (inner l.room)) one_more (length l.words - l._turn) (map tree l.before.items, tree l.last) l.rest ≡ repeat (next_sign (codes "=")) (sign (codes "=") ▹ exprs (inner l.room)) one_more (length l.words) ([], tree l.fn.first) l.words;
  shorter : length l.rest ≤ length l.words;
}
