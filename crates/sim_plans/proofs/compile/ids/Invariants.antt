use Rattle.std.proofs.Common.{◌≡◌, take}
use Rattle.sim_plans.specs.Tasks.{places_of}
use Rattle.sim_plans.proofs.compile.ids.Given as goal

abbrev pub invariant-loop-k : goal.invariant-loop-k
invariant-loop-k l = places_of l.list ≡ take l.k-index l.numbers
