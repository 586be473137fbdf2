-- What is asked of writes that are cut, and the numbers of an offset or an index as they are kept.
use Rattle.std.specs.Prelude.{ℕ, ◌+◌, ◌≤◌}
use Rattle.design_ir.specs.Targets.{Numbers}
use Rattle.flat_design.specs.declared.spans.Span.{Span}
use Rattle.flat_design.specs.declared.writes.Write.{Write}

abbrev pub numbers_in : Span → Numbers
numbers_in s = record { least = s.least; greatest = s.greatest }

-- its bits of a signal are among as many as a shape may have
abbrev pub IsNarrow : Write → Type 0
IsNarrow w = w.low + w.width ≤ 128

-- its bits of the value are among so many
abbrev pub IsWithin : ℕ → Write → Type 0
IsWithin wide w = w.from + w.width ≤ wide
