use Rattle.std.proofs.Common.{◌≡◌, ◌≤◌, ◌-◌, [], length, map}
use Rattle.std.specs.Prelude.{codes}
use Rattle.py_tree.specs.Programs.{import_of}
use Rattle.py_grammar.specs.Readers.{repeat, made, sign, ◌▹◌}
use Rattle.py_grammar.specs.Reading.{comma_then}
use Rattle.py_grammar.specs.Line_reading.{and_then, import_name, name_next}
use Rattle.py_parser.specs.Line_forms.{second}
use Rattle.py_parser.proofs.imports.read_other_names.Given as goal

abbrev pub invariant-loop-turn : goal.invariant-loop-turn
invariant-loop-turn l = record {
  reads : repeat (comma_then name_next) (made second (sign (codes ",") ▹ import_name)) and_then (length l.words - l._turn) (map import_of l.names.items) l.rest ≡ repeat (comma_then name_next) (made second (sign (codes ",") ▹ import_name)) and_then (length l.words) [] l.words;
  shorter : length l.rest ≤ length l.words;
}
