use Rattle.std.proofs.Common.{◌≡◌, ℕ, true, length, take, get_or}
use Rattle.design_ir.specs.Circuits.{is_among}
use Rattle.sim_plans.specs.Driven.{numbers_of}
use Rattle.sim_plans.specs.Groups.{AreJoined, IsForest, Keeps}
use Rattle.sim_plans.proofs.group.join_noted.Given as goal

abbrev pub invariant-loop-s : goal.invariant-loop-s
invariant-loop-s l = record {
  count : length l.parents ≡ length l.initial.parents;
  forest : IsForest l.parents;
  keeps : Keeps l.initial.parents l.parents;
  joined : (s : ℕ) → is_among (numbers_of (take l.s-index l.signals)) s ≡ true → AreJoined l.parents l.i (get_or l.noted s 0);
}
