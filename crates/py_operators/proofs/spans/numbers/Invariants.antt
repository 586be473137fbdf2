use Rattle.std.proofs.Common.{◌≡◌, ◌-◌, ◌++◌, map}
use Rattle.py_values.specs.declared.val.Val.TheVariants as val
use Rattle.py_operators.specs.Spans.{numbers_from}
use Rattle.py_operators.proofs.spans.numbers.Given as goal

abbrev pub invariant-loop-i : goal.invariant-loop-i
invariant-loop-i l = l.all ++ map val.Int (numbers_from (l.count - l.i) l.i l.r) ≡ map val.Int (numbers_from l.count 0 l.r)
