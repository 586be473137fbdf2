use Rattle.std.proofs.Common.{◌≡◌, ◌≤◌, ◌-◌, ◌*◌, ◌/◌, ◌^◌}
use Rattle.design_ir.specs.Rows.{enabled}
use Rattle.sim_plans.proofs.written.enabled.Given as goal

abbrev pub invariant-loop-left : goal.invariant-loop-left
invariant-loop-left l = record {
  within : l.left ≤ l.count;
  width : l.mask.width ≡ l.granule * (l.count - l.left);
  bits : l.mask.bits ≡ enabled l.granule (l.count - l.left) (l.enable / 2 ^ l.left);
}

abbrev pub decreases-loop-left : goal.decreases-loop-left
decreases-loop-left l = l.left
