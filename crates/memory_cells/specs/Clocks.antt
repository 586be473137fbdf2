-- The clock of a cell.
-- Source: Yosys manual, Cell library: registers, memories (CLK_POLARITY).
use Rattle.std.specs.Prelude.{ℕ, if◌then◌else◌}
use Rattle.memory_cells.specs.declared.clock.Clock.{Clock}

-- 1 for the rising edge, 0 for the falling one
abbrev pub polarity : Clock → ℕ
polarity x = if x.falling then 0 else 1
