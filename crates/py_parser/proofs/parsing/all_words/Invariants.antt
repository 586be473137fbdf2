use Rattle.std.proofs.Common.{◌≡◌, map, take}
use Rattle.py_parser.specs.Files.{line_seen}
use Rattle.py_parser.specs.Parsing.{file_lines}
use Rattle.py_parser.proofs.parsing.all_words.Given as goal

abbrev pub invariant-loop-i : goal.invariant-loop-i
invariant-loop-i l = map line_seen l.all.items ≡ file_lines l.text (take l.i l.lines)
