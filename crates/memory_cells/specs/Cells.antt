-- The cells of a memory: its first rows, its write ports and its read ports.
-- Source: Yosys manual, Cell library: memories; one `$meminit_v2`, no resets of reads, later write ports go first: own rules (docs/RULES.md).
use Rattle.std.specs.Prelude.{ℕ, zero, suc, Bool, true, false, List, [], ◌∷◌, ◌++◌, replicate, ℤ, codes}
use Rattle.shape_rules.specs.declared.cell.CellKind.TheVariants.{MemoryRead, MemoryWrite, MemoryInit}
use Rattle.rtlil_text.specs.declared.sig.SigPart.{SigPart}
use Rattle.rtlil_text.specs.declared.sig.SigPart.TheVariants as parts
use Rattle.rtlil_text.specs.declared.cell.RtlValue.TheVariants as values
use Rattle.rtlil_text.specs.declared.cell.RtlParameter.{RtlParameter}
use Rattle.rtlil_text.specs.declared.cell.RtlEnd.{RtlEnd}
use Rattle.rtlil_text.specs.declared.cell.RtlCell.{RtlCell}
use Rattle.rtlil_text.specs.MemoryRules.{priority_mask}
use Rattle.memory_cells.specs.Bits.{rows_bits}
use Rattle.memory_cells.specs.declared.clock.Clock.{Clock}
use Rattle.memory_cells.specs.declared.plan.Plan.{Plan}
use Rattle.memory_cells.specs.Clocks.{polarity}
use Rattle.memory_cells.specs.Plans.{mask_bits, through_mask}

abbrev pub number_at : List ℕ → ℕ → RtlParameter
number_at name n = record { name = name; value = values.Number n }

abbrev pub bits_at : List ℕ → List Bool → RtlParameter
bits_at name bits = record { name = name; value = values.Bits bits }

abbrev pub end_at : List ℕ → List SigPart → RtlEnd
end_at name spec = record { name = name; spec = spec }

abbrev pub constant : List Bool → List SigPart
constant bits = parts.Const bits ∷ []

-- which memory, and how wide its addresses and its rows are
abbrev pub of_memory : Plan → List RtlParameter
of_memory p = record { name = codes "\\MEMID"; value = values.Id p.id } ∷ number_at (codes "\\ABITS") p.address ∷ number_at (codes "\\WIDTH") p.width ∷ []

-- the first rows
abbrev pub init_parameters : Plan → List RtlParameter
init_parameters p = of_memory p ++ number_at (codes "\\WORDS") p.depth ∷ number_at (codes "\\PRIORITY") 0 ∷ []

abbrev pub init_ends : Plan → List ℤ → List RtlEnd
init_ends p rows = end_at (codes "\\ADDR") (constant (replicate p.address false)) ∷ end_at (codes "\\DATA") (constant (rows_bits p.width rows)) ∷ end_at (codes "\\EN") (constant (replicate p.width true)) ∷ []

abbrev pub init_cell : Plan → List ℕ → List ℤ → RtlCell
init_cell p id rows = record {
  kind = MemoryInit;
  id = id;
  parameters = init_parameters p;
  ends = init_ends p rows;
}

-- a memory, and whether its port has a clock, and at which edge it acts
abbrev pub clock_parameters : Plan → (clocked edge : ℕ) → List RtlParameter
clock_parameters p clocked edge = of_memory p ++ number_at (codes "\\CLK_ENABLE") clocked ∷ number_at (codes "\\CLK_POLARITY") edge ∷ []

-- write port k at the edge of a clock
abbrev pub write_parameters : Plan → (k edge : ℕ) → List RtlParameter
write_parameters p k edge = clock_parameters p 1 edge ++ number_at (codes "\\PORTID") k ∷ bits_at (codes "\\PRIORITY_MASK") (priority_mask (mask_bits p) k) ∷ []

abbrev pub write_cell : Plan → List ℕ → ℕ → Clock → (enable address word : List SigPart) → RtlCell
write_cell p id k clock enable address word = record {
  kind = MemoryWrite;
  id = id;
  parameters = write_parameters p k (polarity clock);
  ends = end_at (codes "\\CLK") clock.bit ∷ end_at (codes "\\EN") enable ∷ end_at (codes "\\ADDR") address ∷ end_at (codes "\\DATA") word ∷ [];
}

-- an end with one constant bit, and a parameter that is 0 at the width of a row
abbrev pub bit_end : List ℕ → Bool → RtlEnd
bit_end name bit = end_at name (constant (bit ∷ []))

abbrev pub zero_row : Plan → List ℕ → RtlParameter
zero_row p name = bits_at name (replicate p.width false)

-- of a read port: with a clock or without, at which edge, and transparent for the write ports of a mask
abbrev pub read_parameters : Plan → (clocked edge : ℕ) → List Bool → List RtlParameter
read_parameters p clocked edge mask =
    clock_parameters p clocked edge
    ++ bits_at (codes "\\TRANSPARENCY_MASK") mask ∷ bits_at (codes "\\COLLISION_X_MASK") (replicate (mask_bits p) false)
    ∷ zero_row p (codes "\\ARST_VALUE") ∷ zero_row p (codes "\\SRST_VALUE") ∷ zero_row p (codes "\\INIT_VALUE")
    ∷ number_at (codes "\\CE_OVER_SRST") 0 ∷ []

-- what is at the ends of a read cell
abbrev pub read_ends : (clock enable address word : List SigPart) → List RtlEnd
read_ends clock enable address word = end_at (codes "\\CLK") clock ∷ end_at (codes "\\EN") enable ∷ bit_end (codes "\\ARST") false ∷ bit_end (codes "\\SRST") false ∷ end_at (codes "\\ADDR") address ∷ end_at (codes "\\DATA") word ∷ []

-- a read cell with these parameters
abbrev pub read_with : List ℕ → List RtlParameter → (clock enable address word : List SigPart) → RtlCell
read_with id parameters clock enable address word = record {
  kind = MemoryRead;
  id = id;
  parameters = parameters;
  ends = read_ends clock enable address word;
}

-- it reads at once
abbrev pub comb_read : Plan → List ℕ → (address word : List SigPart) → RtlCell
comb_read p id address word = read_with id (read_parameters p 0 1 (replicate (mask_bits p) false)) (constant (false ∷ [])) (constant (true ∷ [])) address word

-- it reads at the edge of a clock
abbrev pub clocked_read : Plan → List ℕ → List ℕ → Clock → (enable address word : List SigPart) → RtlCell
clocked_read p id through clock enable address word = read_with id (read_parameters p 1 (polarity clock) (through_mask p through)) clock.bit enable address word

-- ---- all write ports

-- a write cell, and what is at its ends
pub record WritePort : Type 0 where
  pub id : List ℕ
  pub clock : Clock
  pub enable : List SigPart
  pub address : List SigPart
  pub word : List SigPart

-- the write cells of these ports, from number k on
abbrev pub write_cells : Plan → ℕ → List WritePort → List RtlCell
write_cells p k [] = []
write_cells p k (w ∷ ws) = write_cell p w.id k w.clock w.enable w.address w.word ∷ write_cells p (suc k) ws

-- ---- the enable of a write port at its cell

-- each of so many bits of a wire as often as its granule has bits, the highest first
abbrev pub spread_spec : List ℕ → (granule count : ℕ) → List SigPart
spread_spec id granule zero = []
spread_spec id granule (suc n) = replicate granule (parts.Wire id n 1) ++ spread_spec id granule n
