use Rattle.std.proofs.Common.{◌≡◌, ◌++◌, ◌-◌}
use Rattle.memory_cells.specs.Cells.{spread_spec}
use Rattle.memory_cells.proofs.granules.spread.Given as goal

abbrev pub invariant-loop-i : goal.invariant-loop-i
invariant-loop-i l = l.spec ++ spread_spec l.id l.granule (l.count - l.i) ≡ spread_spec l.id l.granule l.count
