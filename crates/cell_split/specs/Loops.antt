-- Loops through cells that are taken whole, and loops through their bits.
-- Source: Yosys manual, Command reference: check (combinational loops); Cell library, for which ends a cell reads; bits one by one: own rule (docs/RULES.md).
use Rattle.std.specs.Prelude.{◌≡◌, ◌≢◌, ℕ, ◌&&◌, ◌||◌, Bool, true, false, not, List, [], ◌∷◌, Some, slice_get, Contains, codes}
use Rattle.shape_rules.specs.declared.cell.CellKind.{CellKind}
use Rattle.shape_rules.specs.declared.cell.CellKind.TheVariants.{MemoryRead}
use Rattle.rtlil_text.specs.declared.cell.RtlCell.{RtlCell}
use Rattle.rtlil_text.specs.declared.module.RtlModule.{RtlModule}
use Rattle.rtlil_text.specs.Sources.{Source, Net, spec_bits, end_bits}
use Rattle.rtlil_text.specs.CellTables.{output_of}
use Rattle.rtlil_text.specs.Drivers.{Driver, ByInput, ByLink, ByCell, ByNone, driver}
use Rattle.rtlil_text.specs.Memories.{is_write, is_init}
use Rattle.rtlil_text.specs.Meaning.{is_kept}
use Rattle.cell_split.specs.Pieces.{is_bitwise, is_shared}

-- a bit of a wire
pub record Bit : Type 0 where
  pub wire : List ℕ
  pub place : ℕ

abbrev pub net : Bit → Source
net b = Net b.wire b.place

-- ---- what a cell reads

-- the output follows the ends at once: registers and clocked reads keep theirs, and writes and first values of memories have none
abbrev pub is_comb : RtlCell → Bool
is_comb c = not (is_kept c || is_write c.kind || is_init c.kind)

-- the ends that the output follows: of a read its address alone
abbrev pub IsRead : CellKind → List ℕ → Type 0
IsRead MemoryRead name = name ≡ codes "\\ADDR"
IsRead kind name = name ≢ output_of kind

-- the bit stands at place k, or anywhere
abbrev pub StandsAt : (exactly : Bool) → List Source → ℕ → Bit → Type 0
StandsAt true bits k b = slice_get bits k ≡ Some (net b)
StandsAt false bits k b = Contains bits (net b)

-- bit k of the output follows bit k of the operands where the cell goes bit by bit, and each bit that stands at S; else each bit of the ends
pub record TakesBit (c : RtlCell) (k : ℕ) (b : Bit) : Type 0 where
  pub comb : is_comb c ≡ true
  pub name : List ℕ
  pub reads : IsRead c.kind name
  pub stands : StandsAt (is_bitwise c.kind && not (is_shared name)) (end_bits c name) k b

-- taken whole, each bit of the output follows all that stands at an end but the output
pub record TakesWhole (c : RtlCell) (b : Bit) : Type 0 where
  pub comb : is_comb c ≡ true
  pub name : List ℕ
  pub other : name ≢ output_of c.kind
  pub stands : Contains (end_bits c name) (net b)

-- ---- what a bit needs

-- the driver takes the bit, by what cells take; a link gives place k of its right side
abbrev pub DriverTakes : (RtlCell → ℕ → Bit → Type 0) → Bit → Driver → Type 0
DriverTakes takes a ByInput = ⊥
DriverTakes takes a (ByLink l k) = slice_get (spec_bits l.right) k ≡ Some (net a)
DriverTakes takes a (ByCell c k) = takes c k a
DriverTakes takes a ByNone = ⊥

-- what drives b takes a, with cells taken bit by bit
abbrev pub Feeds : RtlModule → Bit → Bit → Type 0
Feeds m a b = DriverTakes TakesBit a (driver m b.wire b.place)

-- the same with cells taken whole
abbrev pub FeedsWhole : RtlModule → Bit → Bit → Type 0
FeedsWhole m a b = DriverTakes (λ c k. TakesWhole c) a (driver m b.wire b.place)

-- ---- loops

-- a feeds the first of these, each of them the next, and the last the end
abbrev pub Way : (Bit → Bit → Type 0) → Bit → List Bit → Bit → Type 0
Way feeds a [] end = feeds a end
Way feeds a (b ∷ between) end = feeds a b × Way feeds b between end

-- one step or more lead from the bit to itself
abbrev pub OnLoop : (Bit → Bit → Type 0) → Bit → Type 0
OnLoop feeds b = (between : List Bit) × Way feeds b between b

-- a reader that takes cells whole sees loops only where bits need themselves
abbrev pub LoopsAreOfBits : RtlModule → Type 0
LoopsAreOfBits m = (b : Bit) → OnLoop (FeedsWhole m) b → OnLoop (Feeds m) b
