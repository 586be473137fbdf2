use Rattle.std.proofs.Common.{◌≡◌}
use Rattle.value_acts.specs.Indices.{ids_from}
use Rattle.value_acts.proofs.indices.ids_from.Given as goal

abbrev pub invariant-loop-k : goal.invariant-loop-k
invariant-loop-k l = l.all ≡ ids_from l.next l.k
