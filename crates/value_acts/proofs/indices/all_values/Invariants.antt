use Rattle.std.proofs.Common.{◌≡◌, map}
use Rattle.amh_things.specs.declared.thing.Thing.TheVariants as thing
use Rattle.value_acts.specs.Indices.{ids_from}
use Rattle.value_acts.proofs.indices.all_values.Given as goal

abbrev pub invariant-loop-k : goal.invariant-loop-k
invariant-loop-k l = l.all ≡ map thing.Value (ids_from l.next l.k)
