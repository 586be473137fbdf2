-- A memory as its cells see it, and which row an address stands for.
-- Source: Yosys manual, Cell library: memories; that an address past the depth stands for row 0 under a guard: own rule (docs/RULES.md).
use Rattle.std.specs.Prelude.{ℕ, ◌==◌, nat_lt, if◌then◌else◌, Bool, List, map, max}
use Rattle.std.specs.List.{list_any, range_with_len}
use Rattle.rtlil_text.specs.declared.module.RtlMemory.{RtlMemory}
use Rattle.memory_cells.specs.declared.plan.Plan.{Plan}

-- the memory of a module
abbrev pub planned : Plan → RtlMemory
planned p = record { id = p.id; width = p.width; size = p.depth }

-- an address past the depth is never given to a cell: row 0 is, and what is read or written there is dropped
abbrev pub guarded : (depth address : ℕ) → ℕ
guarded depth address = if nat_lt address depth then address else 0

-- how many bits a mask has: one for each write cell, and at least one
abbrev pub mask_bits : Plan → ℕ
mask_bits p = max 1 p.writes

-- the mask of these write cells, from number k on
abbrev pub through_from : List ℕ → (k n : ℕ) → List Bool
through_from through k n = map (λ j. list_any (λ i. i == j) through) (range_with_len k n)

abbrev pub through_mask : Plan → List ℕ → List Bool
through_mask p through = through_from through 0 (mask_bits p)
