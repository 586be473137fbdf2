use Rattle.std.proofs.Common.{◌≡◌, ◌≤◌, ◌-◌, [], length, map}
use Rattle.std.specs.Prelude.{codes}
use Rattle.py_tree.specs.Programs.{parameter_of}
use Rattle.py_grammar.specs.Readers.{repeat, made, sign, ◌▹◌}
use Rattle.py_grammar.specs.Reading.{inner, comma_then}
use Rattle.py_grammar.specs.Line_reading.{and_then, param, param_next}
use Rattle.py_parser.specs.Line_forms.{second}
use Rattle.py_parser.proofs.params.read_other_params.Given as goal

abbrev pub invariant-loop-turn : goal.invariant-loop-turn
invariant-loop-turn l = record {
  reads : repeat (comma_then param_next) (made second (sign (codes ",") ▹ param (inner l.room))) and_then (length l.words - l._turn) (map parameter_of l.params.items) l.rest ≡ repeat (comma_then param_next) (made second (sign (codes ",") ▹ param (inner l.room))) and_then (length l.words) [] l.words;
  shorter : length l.rest ≤ length l.words;
}
