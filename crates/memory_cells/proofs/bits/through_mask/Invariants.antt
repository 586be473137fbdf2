use Rattle.std.proofs.Common.{◌≡◌, ◌++◌, ◌-◌}
use Rattle.memory_cells.specs.Plans.{through_from}
use Rattle.memory_cells.proofs.bits.through_mask.Given as goal

abbrev pub invariant-loop-i : goal.invariant-loop-i
invariant-loop-i l = l.bits ++ through_from l.through l.i (l.count - l.i) ≡ through_from l.through 0 l.count
