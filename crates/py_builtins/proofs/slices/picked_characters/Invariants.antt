use Rattle.std.proofs.Common.{◌≡◌, ◌-◌, ◌++◌}
use Rattle.std.specs.Prelude.{encode_utf8_all}
use Rattle.std.specs.String.{string_bytes}
use Rattle.py_operators.specs.Spans.{numbers_from}
use Rattle.py_builtins.specs.Indices.{picked}
use Rattle.py_builtins.proofs.slices.picked_characters.Given as goal

abbrev pub invariant-loop-i : goal.invariant-loop-i
invariant-loop-i l = string_bytes l.all ++ encode_utf8_all (picked l.cs (numbers_from (l.count - l.i) l.i l.r)) ≡ encode_utf8_all (picked l.cs (numbers_from l.count 0 l.r))
