use Rattle.std.proofs.Common.{◌≡◌, ◌+◌, map}
use Rattle.std.specs.List.{range_with_len}
use Rattle.py_values.specs.declared.val.Val.TheVariants as val
use Rattle.value_acts.proofs.indices.all_things.Given as goal

abbrev pub invariant-loop-k : goal.invariant-loop-k
invariant-loop-k l = l.all ≡ map (λ k. val.Hw (record { 0 = l.next + k })) (range_with_len 0 l.k)
