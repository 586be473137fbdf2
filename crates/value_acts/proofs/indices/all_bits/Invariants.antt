use Rattle.std.proofs.Common.{◌≡◌, map}
use Rattle.std.specs.List.{range_with_len}
use Rattle.value_acts.specs.Indices.{bit}
use Rattle.value_acts.proofs.indices.all_bits.Given as goal

abbrev pub invariant-loop-k : goal.invariant-loop-k
invariant-loop-k l = l.all ≡ map (bit l.e) (range_with_len 0 l.k)
