use Rattle.std.proofs.Common.{◌≡◌, ◌-◌, ◌++◌}
use Rattle.py_operators.specs.Spans.{numbers_from}
use Rattle.py_builtins.specs.Indices.{picked}
use Rattle.py_builtins.proofs.slices.picked_values.Given as goal

abbrev pub invariant-loop-i : goal.invariant-loop-i
invariant-loop-i l = l.all ++ picked l.row (numbers_from (l.count - l.i) l.i l.r) ≡ picked l.row (numbers_from l.count 0 l.r)
