use Rattle.std.proofs.Common.{◌≡◌, take}
use Rattle.sim_plans.proofs.compile.copied.Given as goal

abbrev pub invariant-loop-i : goal.invariant-loop-i
invariant-loop-i l = l.list ≡ take l.i-index l.places
