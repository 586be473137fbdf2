use Rattle.std.proofs.Common.{◌≡◌, ◌-◌, ◌≤◌}
use Rattle.fsm_lowering.specs.States.{least_width}
use Rattle.fsm_lowering.proofs.states.range_width.Given as goal

abbrev pub invariant-loop-width : goal.invariant-loop-width
invariant-loop-width l = record {
  few : l.width ≤ 8;
  same : least_width (8 - l.width) l.width l.count ≡ least_width 8 0 l.count;
}

abbrev pub decreases-loop-width : goal.decreases-loop-width
decreases-loop-width l = 8 - l.width
