use Rattle.std.proofs.Common.{◌≡◌, ◌<◌, ℕ, length, get_or}
use Rattle.sim_plans.specs.Groups.{AreJoined, IsForest, Keeps}
use Rattle.sim_plans.proofs.group.root.Given as goal

abbrev pub invariant-loop-parents : goal.invariant-loop-parents
invariant-loop-parents l = record {
  count : length l.parents ≡ length l.initial.parents;
  there : l.e < length l.parents;
  forest : IsForest l.parents;
  keeps : Keeps l.initial.parents l.parents;
  roots : (k : ℕ) → get_or l.initial.parents k 0 ≡ k → get_or l.parents k 0 ≡ k;
  joined : AreJoined l.parents l.i l.e;
}

abbrev pub decreases-loop-parents : goal.decreases-loop-parents
decreases-loop-parents l = l.e
