use Rattle.std.proofs.Common.{◌≡◌, map, take}
use Rattle.value_acts.specs.Indices.{bit}
use Rattle.value_acts.proofs.indices.some_bits.Given as goal

abbrev pub invariant-loop-k : goal.invariant-loop-k
invariant-loop-k l = l.all ≡ map (bit l.e) (take l.k-index l.places)
