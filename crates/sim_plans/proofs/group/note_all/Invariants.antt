use Rattle.std.proofs.Common.{◌≡◌, length}
use Rattle.sim_plans.specs.Groups.{AreNoted}
use Rattle.sim_plans.proofs.group.note_all.Given as goal

abbrev pub invariant-loop-i : goal.invariant-loop-i
invariant-loop-i l = record {
  count : length l.noted ≡ length l.initial.noted;
  noted : AreNoted l.drives l.i l.noted;
}
