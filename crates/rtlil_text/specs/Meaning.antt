-- The value of each bit of a wire, to a depth: found by its driver from the values of other bits.
-- Source: Yosys manual, RTLIL text representation: Connections; Cell library: memories (reads); depths: own rule (docs/RULES.md).
use Rattle.std.specs.Prelude.{ℕ, zero, suc, ◌==◌, nat_lt, Bool, true, false, if◌then◌else◌, List, [], ◌∷◌, slice_get, Option, Some, None, option_map, option_and_then, unwrap_or, codes}
use Rattle.lists.specs.Texts.{text_eq}
use Rattle.shape_rules.specs.declared.cell.CellKind.{CellKind}
use Rattle.shape_rules.specs.declared.cell.CellKind.TheVariants.{Dff, Adff, MemoryRead}
use Rattle.rtlil_text.specs.declared.cell.RtlCell.{RtlCell}
use Rattle.rtlil_text.specs.declared.module.RtlMemory.{RtlMemory}
use Rattle.rtlil_text.specs.declared.module.RtlModule.{RtlModule}
use Rattle.rtlil_text.specs.Sources.{Source, Constant, Net, spec_bits, end_bits, end_width, number_at, memory_id, memory_of}
use Rattle.rtlil_text.specs.CellTables.{output_of}
use Rattle.rtlil_text.specs.Drivers.{Driver, ByInput, ByLink, ByCell, ByNone, driver}
use Rattle.rtlil_text.specs.Cells.{read, bit_at, bits_number, cell_bit}

-- the bits of each input wire, by its id
abbrev pub Inputs : Type 0
Inputs = List (List ℕ × List Bool)

-- the bits that registers and clocked reads keep, by wire and place, and those of memories, by id, row and place
pub record State : Type 0 where
  pub registers : List ℕ → ℕ → Option Bool
  pub rows : List ℕ → ℕ → ℕ → Option Bool

-- what stands first under a name
abbrev pub under : {A : Type 0} → List ℕ → List (List ℕ × A) → Option A
under name [] = None
under name ((id, x) ∷ more) = if text_eq id name then Some x else under name more

abbrev pub input_bit : Inputs → List ℕ → ℕ → Option Bool
input_bit inputs wire i = option_and_then (λ bits. slice_get bits i) (under wire inputs)

abbrev pub memory_size : RtlModule → List ℕ → ℕ
memory_size m id = unwrap_or (option_map (λ (r : RtlMemory). r.size) (memory_of m id)) 0

-- bit k of a row; there is none past the size
abbrev pub row_bit : RtlModule → State → List ℕ → ℕ → ℕ → Option Bool
row_bit m st id row k = if nat_lt row (memory_size m id) then st.rows id row k else None

-- registers and clocked reads keep their output
abbrev pub is_kept_kind : (clocked : ℕ) → CellKind → Bool
is_kept_kind clocked Dff = true
is_kept_kind clocked Adff = true
is_kept_kind clocked MemoryRead = clocked == 1
is_kept_kind clocked kind = false

abbrev pub is_kept : RtlCell → Bool
is_kept c = is_kept_kind (number_at c (codes "\\CLK_ENABLE")) c.kind

abbrev pub source_value : (List ℕ → ℕ → Option Bool) → Source → Option Bool
source_value value (Constant b) = Some b
source_value value (Net wire i) = value wire i

-- bit k of a cell that keeps nothing: a read gives the row at its address, each other cell goes by its operands
abbrev pub comb_bit : RtlModule → State → (Source → Option Bool) → RtlCell → ℕ → CellKind → Option Bool
comb_bit m st value c k MemoryRead = option_and_then (λ address. row_bit m st (memory_id c) (bits_number address) k) (read value (end_bits c (codes "\\ADDR")))
comb_bit m st value c k kind = cell_bit value c (end_width c (output_of kind)) k kind

abbrev pub driven_bit : RtlModule → State → Inputs → (Source → Option Bool) → List ℕ → ℕ → Driver → Option Bool
driven_bit m st inputs value wire i ByInput = input_bit inputs wire i
driven_bit m st inputs value wire i (ByLink l k) = bit_at value (spec_bits l.right) k
driven_bit m st inputs value wire i (ByCell c k) = if is_kept c then st.registers wire i else comb_bit m st value c k c.kind
driven_bit m st inputs value wire i ByNone = None

-- the value of bit i of a wire to depth n: bits to depth n - 1 give it, and there is none to depth 0
abbrev pub bit : RtlModule → State → Inputs → ℕ → List ℕ → ℕ → Option Bool
bit m st inputs zero wire i = None
bit m st inputs (suc n) wire i = driven_bit m st inputs (source_value (bit m st inputs n)) wire i (driver m wire i)
