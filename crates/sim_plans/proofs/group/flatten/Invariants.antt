use Rattle.std.proofs.Common.{◌≡◌, ◌<◌, ℕ, length, get_or}
use Rattle.sim_plans.specs.Groups.{IsForest, Keeps}
use Rattle.sim_plans.proofs.group.flatten.Given as goal

abbrev pub invariant-loop-i : goal.invariant-loop-i
invariant-loop-i l = record {
  count : length l.parents ≡ length l.initial.parents;
  forest : IsForest l.parents;
  keeps : Keeps l.initial.parents l.parents;
  flat : (j : ℕ) → j < l.i → get_or l.parents (get_or l.parents j 0) 0 ≡ get_or l.parents j 0;
}
