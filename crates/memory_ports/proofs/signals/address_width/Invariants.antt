use Rattle.std.proofs.Common.{◌≡◌, ◌-◌, ◌≤◌}
use Rattle.memory_ports.specs.Ports.{least_width}
use Rattle.memory_ports.proofs.signals.address_width.Given as goal

abbrev pub invariant-loop-width : goal.invariant-loop-width
invariant-loop-width l = record {
  few : l.width ≤ 16;
  same : least_width (16 - l.width) l.width l.depth ≡ least_width 16 0 l.depth;
}

abbrev pub decreases-loop-width : goal.decreases-loop-width
decreases-loop-width l = 16 - l.width
