use Rattle.std.proofs.Common.{◌≡◌, ◌+◌, ◌≤◌, drop}
use Rattle.value_acts.specs.Joins.{bits_of_all}
use Rattle.value_acts.proofs.joins.few_bits.Given as goal

abbrev pub invariant-loop-x : goal.invariant-loop-x
invariant-loop-x l = (l.bits + bits_of_all (drop l.x-index l.xs) ≡ bits_of_all l.xs) × (l.bits ≤ 128)
