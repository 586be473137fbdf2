use Rattle.std.proofs.Common.{◌≡◌, drop}
use Rattle.value_acts.specs.Arrays.{common_from}
use Rattle.value_acts.proofs.arrays.common_from.Given as goal

abbrev pub invariant-loop-x : goal.invariant-loop-x
invariant-loop-x l = common_from l.all (drop l.x-index l.xs) ≡ common_from l.fn.shape l.xs
