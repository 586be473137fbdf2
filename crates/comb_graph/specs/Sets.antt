-- Sets of places of a target as numbers, and the numbers of offsets.
use Rattle.std.specs.Prelude.{ℕ, ◌+◌, ◌*◌, ◌==◌, Bool}
use Rattle.amh_bits.specs.Patterns.{nat_bit}
use Rattle.design_ir.specs.Targets.{Numbers, some_number}
use Rattle.comb_graph.specs.declared.spans.Span.{Span}

-- place k is in the set whose number this is
abbrev pub has : ℕ → ℕ → Bool
has set k = nat_bit set k == 1

abbrev pub numbers_in : Span → Numbers
numbers_in s = record { least = s.least; greatest = s.greatest }

-- from place k some number of an offset leads into the set
abbrev pub spread : Span → ℕ → ℕ → (ℕ → Bool) → ℕ → Bool
spread offset wide stride set k = some_number (numbers_in offset) wide (λ o. set (o * stride + k))
