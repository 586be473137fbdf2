-- What is proved of the cells of a memory.
-- Internal: no rule of the language.
use Rattle.std.specs.Prelude.{◌≡◌, ◌≤◌, ◌<◌, ◌*◌, ℕ, nat_lt, if◌then◌else◌, Bool, true, false, List, [], ◌∷◌, length, replicate, slice_get, ℤ, Option, Some, codes, max, ◌^◌, ◌&&◌, not}
use Rattle.std.specs.List.{flat_map, AllByRecursion}
use Rattle.shape_rules.specs.declared.cell.CellKind.TheVariants.{MemoryRead}
use Rattle.design_ir.specs.declared.memory.MemWrite.{MemWrite}
use Rattle.design_ir.specs.declared.memory.MemRead.{MemRead}
use Rattle.design_ir.specs.declared.memory.Memory.{Memory}
use Rattle.design_ir.specs.Values.{num}
use Rattle.design_ir.specs.Circuits.{at, option_test}
use Rattle.design_ir.specs.declared.ids.ExprId.{ExprId}
use Rattle.shape_rules.specs.Operators.{is_zero}
use Rattle.rtlil_text.specs.declared.sig.SigPart.{SigPart}
use Rattle.design_ir.specs.Rows.{enabled, enabled_bits}
use Rattle.design_ir.specs.Designs.{IsGranularity}
use Rattle.design_ir.specs.Steps.{port_active, write_row, read_word, reads_now}
use Rattle.std.specs.Prelude.{fold}
use Rattle.rtlil_text.specs.declared.cell.RtlCell.{RtlCell}
use Rattle.rtlil_text.specs.declared.module.RtlModule.{RtlModule}
use Rattle.rtlil_text.specs.Sources.{Source, spec_bits, end_bits, bits_at, memory_id}
use Rattle.rtlil_text.specs.Cells.{read, bit_at, bits_number, number_bits}
use Rattle.rtlil_text.specs.Memories.{writes_of}
use Rattle.rtlil_text.specs.Meaning.{State, memory_size, source_value, comb_bit}
use Rattle.rtlil_text.specs.History.{Wires, wire_bit, acts, data_bit, step, next_bit}
use Rattle.memory_cells.specs.Bits.{bit_of, is_set}
use Rattle.memory_cells.specs.declared.clock.Clock.{Clock}
use Rattle.memory_cells.specs.declared.plan.Plan.{Plan}
use Rattle.memory_cells.specs.Plans.{guarded, through_from}
use Rattle.memory_cells.specs.Cells.{init_cell, write_cell, clocked_read, spread_spec}
use Rattle.memory_cells.specs.Carried.{Moment, HasRows, CarriesWrite, CarryWrites, CarriesRead, address_at}

abbrev pub HaveGranules : Memory → Type 0
HaveGranules m = AllByRecursion (λ (w : MemWrite). IsGranularity m w.granularity) m.writes

-- a memory of the module stands for one of the design: its rows are as many, and its write cells are those of the ports
pub record Stands (t : Moment) (m : Memory) (id : List ℕ) : Type 0 where
  pub size : memory_size t.rtl id ≡ m.depth
  pub granules : HaveGranules m
  pub writes : CarryWrites t m (writes_of t.rtl id) m.writes

-- before any event a memory has its first rows
abbrev pub RowsBegin : Type 0
RowsBegin = (p : Plan) (id : List ℕ) (rows : List ℤ) (row k : ℕ) → row < length rows → k < p.width → data_bit (init_cell p id rows ∷ []) row k ≡ Some (bit_of (at rows row) k)

-- the enable of a port, each bit of it as many times as its granule has bits, lets the enabled bits through
abbrev pub EnablesSpread : Type 0
EnablesSpread = (granule count enable k : ℕ) → k < granule * count → slice_get (flat_map (λ b. replicate granule b) (number_bits count enable)) k ≡ Some (is_set (enabled granule count enable) k)

-- an event leaves in the rows what the write ports of the design leave there
abbrev pub RowsFollow : Type 0
RowsFollow = (t : Moment) (m : Memory) (id : List ℕ) (rows : List ℤ) → Stands t m id → length rows ≡ m.depth → HasRows m.shape.width m.depth id t.st rows
    → HasRows m.shape.width m.depth id (step t.rtl t.old t.new t.st) (fold (write_row t.design t.env t.listed m) rows m.writes)

-- a read without a clock has the row at a guarded address
abbrev pub ReadsFollow : Type 0
ReadsFollow = (rtl : RtlModule) (st : State) (value : Source → Option Bool) (c : RtlCell) (width depth address k : ℕ) (bits : List Bool) (rows : List ℤ) → HasRows width depth (memory_id c) st rows
    → memory_size rtl (memory_id c) ≡ depth → 1 ≤ depth → read value (end_bits c (codes "\\ADDR")) ≡ Some bits → bits_number bits ≡ guarded depth address → k < width
    → comb_bit rtl st value c k MemoryRead ≡ Some (bit_of (at rows (guarded depth address)) k)

-- under the guard it is what the port reads: 0 past the depth
abbrev pub GuardsFollow : Type 0
GuardsFollow = (rows : List ℤ) (address k : ℕ) → (if nat_lt address (length rows) then bit_of (at rows (guarded (length rows) address)) k else false) ≡ bit_of (at rows address) k

-- what a clocked read keeps after an event: where it reads and its address is one of a row, what the port takes; where it does not, what it
-- had; and past the depth some row, which the guard behind it drops
abbrev pub ClockedReadsFollow : Type 0
ClockedReadsFollow = (t : Moment) (m : Memory) (c : RtlCell) (r : MemRead) (rows : List ℤ) (k : ℕ) (before : Bool) → Stands t m (memory_id c) → CarriesRead t m c r → length rows ≡ m.depth → 1 ≤ m.depth
    → HasRows m.shape.width m.depth (memory_id c) t.st rows → bits_at c (codes "\\TRANSPARENCY_MASK") ≡ through_from r.transparent 0 (max 1 (length m.writes)) → k < m.shape.width
    → (b : Bool) × (next_bit t.rtl t.st t.old t.new c k (Some before) MemoryRead ≡ Some b)
    × (reads_now t.design t.env t.listed r ≡ false → b ≡ before)
    × (reads_now t.design t.env t.listed r ≡ true → address_at t r.addr < m.depth → b ≡ bit_of (read_word t.design t.env t.listed m rows r) k)

-- ---- the guard behind a clocked read

-- Bit k of read data, by a flag that says whether the last address was one of a row, and the bit that the read cell keeps.
pub record IsBehindGuard (word : ℤ) (k : ℕ) (flag raw : Bool) : Type 0 where
  pub kept : flag ≡ true → raw ≡ bit_of word k
  pub dropped : flag ≡ false → bit_of word k ≡ false

-- read data, and the flag, after an event
abbrev pub word_after : Moment → Memory → MemRead → List ℤ → ℤ → ℤ
word_after t m r rows word = if reads_now t.design t.env t.listed r then read_word t.design t.env t.listed m rows r else word

abbrev pub flag_after : Moment → Memory → MemRead → Bool → Bool
flag_after t m r flag = if reads_now t.design t.env t.listed r then nat_lt (address_at t r.addr) m.depth else flag

-- where a flag keeps beside a clocked read whether the address was one of a row, data and flag stay together after each event
abbrev pub GuardedReadsFollow : Type 0
GuardedReadsFollow = (t : Moment) (m : Memory) (c : RtlCell) (r : MemRead) (rows : List ℤ) (word : ℤ) (k : ℕ) (flag raw : Bool) → Stands t m (memory_id c) → CarriesRead t m c r → length rows ≡ m.depth → 1 ≤ m.depth
    → HasRows m.shape.width m.depth (memory_id c) t.st rows → bits_at c (codes "\\TRANSPARENCY_MASK") ≡ through_from r.transparent 0 (max 1 (length m.writes)) → k < m.shape.width
    → IsBehindGuard word k flag raw
    → (next : Bool) × (next_bit t.rtl t.st t.old t.new c k (Some raw) MemoryRead ≡ Some next) × IsBehindGuard (word_after t m r rows word) k (flag_after t m r flag) next

-- what passes the guard is the read data
abbrev pub GuardsShowTheWord : Type 0
GuardsShowTheWord = (word : ℤ) (k : ℕ) (flag raw : Bool) → IsBehindGuard word k flag raw → (if flag then raw else false) ≡ bit_of word k

-- ---- from the wires to what cells carry

-- where a wire has the bits of an enable, its bits spread by granules are those that it lets through
abbrev pub SpreadsCarry : Type 0
SpreadsCarry = (wires : Wires) (id : List ℕ) (granule count enable k : ℕ) → ((i : ℕ) → i < count → wires id i ≡ Some (is_set enable i)) → k < granule * count
    → bit_at (source_value wires) (spec_bits (spread_spec id granule count)) k ≡ Some (is_set (enabled granule count enable) k)

-- a write cell carries what its port does, where the bits at its ends are the guarded address, the word, and the enable under the guard
abbrev pub WriteCellsCarry : Type 0
WriteCellsCarry = (t : Moment) (m : Memory) (w : MemWrite) (p : Plan) (id : List ℕ) (k : ℕ) (clock : Clock) (enable address word : List SigPart)
    → acts t.rtl t.st t.old t.new (write_cell p id k clock enable address word) ≡ port_active t.design t.env t.listed (Some w.domain)
    → guarded m.depth (address_at t w.addr) < 2 ^ p.address
    → read (source_value (wire_bit t.rtl t.st t.old)) (spec_bits address) ≡ Some (number_bits p.address (guarded m.depth (address_at t w.addr)))
    → ((i : ℕ) → i < m.shape.width → bit_at (source_value (wire_bit t.rtl t.st t.old)) (spec_bits enable) i ≡ Some (nat_lt (address_at t w.addr) m.depth && is_set (enabled_bits t.design.pool t.env m w) i))
    → ((i : ℕ) → i < m.shape.width → bit_at (source_value (wire_bit t.rtl t.st t.old)) (spec_bits word) i ≡ Some (bit_of (num t.design.pool t.env w.word.0) i))
    → CarriesWrite t m (write_cell p id k clock enable address word) w

-- a clocked read cell, likewise
abbrev pub ReadCellsCarry : Type 0
ReadCellsCarry = (t : Moment) (m : Memory) (r : MemRead) (p : Plan) (id : List ℕ) (through : List ℕ) (clock : Clock) (enable address word : List SigPart)
    → acts t.rtl t.st t.old t.new (clocked_read p id through clock enable address word) ≡ port_active t.design t.env t.listed r.domain
    → guarded m.depth (address_at t r.addr) < 2 ^ p.address
    → read (source_value (wire_bit t.rtl t.st t.old)) (spec_bits address) ≡ Some (number_bits p.address (guarded m.depth (address_at t r.addr)))
    → bit_at (source_value (wire_bit t.rtl t.st t.old)) (spec_bits enable) 0 ≡ Some (option_test (λ (e : ExprId). not (is_zero (num t.design.pool t.env e.0))) r.enable)
    → CarriesRead t m (clocked_read p id through clock enable address word) r
