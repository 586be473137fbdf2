-- The rules on memories and their cells.
-- Source: this project's own rule (docs/RULES.md), after the Yosys manual, Cell library: memories.
use Rattle.std.specs.Prelude.{◌≡◌, ◌≤◌, ◌*◌, ℕ, suc, Bool, true, false, List, [], ◌∷◌, ◌++◌, length, max, take, replicate, All, slice_get, Some, MatchOption, Contains, codes}
use Rattle.rtlil_text.specs.declared.cell.RtlCell.{RtlCell}
use Rattle.rtlil_text.specs.declared.module.RtlMemory.{RtlMemory}
use Rattle.rtlil_text.specs.declared.module.RtlModule.{RtlModule}
use Rattle.rtlil_text.specs.Sources.{Source, Constant, end_bits, end_width, number_at, bits_at, memory_id}
use Rattle.rtlil_text.specs.Memories.{writes_of, inits_of}
use Rattle.rtlil_text.specs.CellRules.{GivesWidth, IsFlag}

-- the width of the masks of a memory's cells: a bit for each write cell, and at least one
abbrev pub mask_width : RtlModule → List ℕ → ℕ
mask_width m id = max 1 (length (writes_of m id))

-- a cell of a memory of the module, with that memory's width
pub record FitsMemory (m : RtlModule) (c : RtlCell) (memory : RtlMemory) : Type 0 where
  pub among : Contains m.memories memory
  pub named : memory_id c ≡ memory.id
  pub width : number_at c (codes "\\WIDTH") ≡ memory.width
  pub address : GivesWidth c (codes "\\ABITS") (codes "\\ADDR")
  pub wide : 1 ≤ number_at c (codes "\\ABITS")

-- ---- reads

-- the two cells have the same clock and the same edge
pub record HaveOneClock (c other : RtlCell) : Type 0 where
  pub clocked : number_at c (codes "\\CLK_ENABLE") ≡ 1
  pub clock : end_bits c (codes "\\CLK") ≡ end_bits other (codes "\\CLK")
  pub edge : number_at c (codes "\\CLK_POLARITY") ≡ number_at other (codes "\\CLK_POLARITY")

-- a read takes at once what is written by cells of its own clock and edge alone
abbrev pub IsTransparent : RtlModule → RtlCell → Type 0
IsTransparent m c = (k : ℕ) → slice_get (bits_at c (codes "\\TRANSPARENCY_MASK")) k ≡ Some true → MatchOption (slice_get (writes_of m (memory_id c)) k) ⊥ (HaveOneClock c)

-- a read without a clock
pub record IsCombRead (c : RtlCell) : Type 0 where
  pub clock : end_bits c (codes "\\CLK") ≡ Constant false ∷ []
  pub enable : end_bits c (codes "\\EN") ≡ Constant true ∷ []

pub record FitsRead (m : RtlModule) (c : RtlCell) : Type 0 where
  pub memory : RtlMemory
  pub of_memory : FitsMemory m c memory
  pub row : GivesWidth c (codes "\\WIDTH") (codes "\\DATA")
  pub clocked : IsFlag c (codes "\\CLK_ENABLE")
  pub edge : IsFlag c (codes "\\CLK_POLARITY")
  pub clock : end_width c (codes "\\CLK") ≡ 1
  pub enable : end_width c (codes "\\EN") ≡ 1
  pub comb : number_at c (codes "\\CLK_ENABLE") ≡ 0 → IsCombRead c
  pub transparency : length (bits_at c (codes "\\TRANSPARENCY_MASK")) ≡ mask_width m (memory_id c)
  pub transparent : IsTransparent m c
  pub collision : bits_at c (codes "\\COLLISION_X_MASK") ≡ replicate (mask_width m (memory_id c)) false
  pub first : length (bits_at c (codes "\\INIT_VALUE")) ≡ number_at c (codes "\\WIDTH")
  pub no_reset : end_bits c (codes "\\ARST") ≡ Constant false ∷ []
  pub no_clocked_reset : end_bits c (codes "\\SRST") ≡ Constant false ∷ []
  pub reset_value : bits_at c (codes "\\ARST_VALUE") ≡ replicate (number_at c (codes "\\WIDTH")) false
  pub clocked_reset_value : bits_at c (codes "\\SRST_VALUE") ≡ replicate (number_at c (codes "\\WIDTH")) false
  pub enable_first : number_at c (codes "\\CE_OVER_SRST") ≡ 0

-- ---- writes

pub record FitsWrite (m : RtlModule) (c : RtlCell) : Type 0 where
  pub memory : RtlMemory
  pub of_memory : FitsMemory m c memory
  pub row : GivesWidth c (codes "\\WIDTH") (codes "\\DATA")
  pub enable : GivesWidth c (codes "\\WIDTH") (codes "\\EN")
  pub clocked : number_at c (codes "\\CLK_ENABLE") ≡ 1
  pub edge : IsFlag c (codes "\\CLK_POLARITY")
  pub clock : end_width c (codes "\\CLK") ≡ 1

-- of n write cells, number k goes before those below it
abbrev pub priority_mask : (n k : ℕ) → List Bool
priority_mask n k = take n (replicate k true ++ replicate n false)

-- write cells are numbered in the text's order, from k on, and a later one goes before an earlier one
abbrev pub AreNumbered : (n k : ℕ) → List RtlCell → Type 0
AreNumbered n k [] = Unit {0}
AreNumbered n k (c ∷ cells) = (number_at c (codes "\\PORTID") ≡ k) × (bits_at c (codes "\\PRIORITY_MASK") ≡ priority_mask n k) × AreNumbered n (suc k) cells

-- ---- first rows

abbrev pub IsConstant : Source → Type 0
IsConstant (Constant b) = Unit {0}
IsConstant (Source.Net wire i) = ⊥

pub record FitsInit (m : RtlModule) (c : RtlCell) : Type 0 where
  pub memory : RtlMemory
  pub of_memory : FitsMemory m c memory
  pub words : number_at c (codes "\\WORDS") ≡ memory.size
  pub rows : end_width c (codes "\\DATA") ≡ number_at c (codes "\\WIDTH") * number_at c (codes "\\WORDS")
  pub constant : All IsConstant (end_bits c (codes "\\DATA"))
  pub enable : end_bits c (codes "\\EN") ≡ replicate (number_at c (codes "\\WIDTH")) (Constant true)
  pub from_zero : end_bits c (codes "\\ADDR") ≡ replicate (number_at c (codes "\\ABITS")) (Constant false)
  pub only : number_at c (codes "\\PRIORITY") ≡ 0

-- ---- a memory

pub record MemoryFits (m : RtlModule) (memory : RtlMemory) : Type 0 where
  pub width : 1 ≤ memory.width
  pub size : 1 ≤ memory.size
  pub first : length (inits_of m memory.id) ≡ 1
  pub writes : AreNumbered (mask_width m memory.id) 0 (writes_of m memory.id)
