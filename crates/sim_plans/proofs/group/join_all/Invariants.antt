use Rattle.std.proofs.Common.{◌≡◌, ◌<◌, ℕ, true, length, get_or}
use Rattle.design_ir.specs.Circuits.{is_among}
use Rattle.sim_plans.specs.Groups.{AreJoined, IsForest, drives_of}
use Rattle.sim_plans.proofs.group.join_all.Given as goal

abbrev pub invariant-loop-i : goal.invariant-loop-i
invariant-loop-i l = record {
  count : length l.parents ≡ length l.drives;
  forest : IsForest l.parents;
  joined : (j s : ℕ) → j < l.i → is_among (drives_of l.drives j) s ≡ true → AreJoined l.parents j (get_or l.noted s 0);
}
