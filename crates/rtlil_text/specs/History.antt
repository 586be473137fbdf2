-- What a module does over events: its states, and the values of its wires.
-- Source: Yosys manual, Cell library: registers, memories; inputs from event to event: own rule (docs/RULES.md).
use Rattle.std.specs.Prelude.{ℕ, suc, ◌+◌, ◌*◌, ◌==◌, nat_lt, ◌&&◌, Bool, false, not, if◌then◌else◌, List, [], ◌∷◌, length, slice_get, Option, Some, None, option_map, option_and_then, codes, fold}
use Rattle.shape_rules.specs.declared.cell.CellKind.{CellKind}
use Rattle.shape_rules.specs.declared.cell.CellKind.TheVariants.{Dff, Adff, MemoryRead}
use Rattle.rtlil_text.specs.declared.cell.RtlCell.{RtlCell}
use Rattle.rtlil_text.specs.declared.module.RtlWire.{RtlWire}
use Rattle.rtlil_text.specs.declared.module.RtlModule.{RtlModule}
use Rattle.rtlil_text.specs.Sources.{Source, Constant, Net, end_bits, number_at, bits_at, memory_id, wire_of}
use Rattle.rtlil_text.specs.Drivers.{Driver, ByInput, ByLink, ByCell, ByNone, driver, driven_bits}
use Rattle.rtlil_text.specs.Cells.{read, bit_at, bits_number}
use Rattle.rtlil_text.specs.Memories.{writes_of, inits_of, masked}
use Rattle.rtlil_text.specs.Meaning.{Inputs, State, memory_size, source_value, bit}

-- ---- the wires under a state and inputs

-- a depth that reaches each driver: one more than the number of driven bits
abbrev pub depth : RtlModule → ℕ
depth m = suc (length (driven_bits m))

-- the value of bit i of a wire
unfoldable pub wire_bit : RtlModule → State → Inputs → List ℕ → ℕ → Option Bool
wire_bit m st inputs wire i = bit m st inputs (depth m) wire i

-- the value of bit k at an end of a cell
abbrev pub end_bit : RtlModule → State → Inputs → RtlCell → List ℕ → ℕ → Option Bool
end_bit m st inputs c name k = bit_at (source_value (wire_bit m st inputs)) (end_bits c name) k

-- the number at ADDR of a memory cell
abbrev pub address : RtlModule → State → Inputs → RtlCell → Option ℕ
address m st inputs c = option_map bits_number (read (source_value (wire_bit m st inputs)) (end_bits c (codes "\\ADDR")))

-- ---- the first state

abbrev pub init_bit : RtlModule → List ℕ → ℕ → Option Bool
init_bit m wire i = option_and_then (λ (w : RtlWire). option_and_then (λ bits. slice_get bits i) w.init) (wire_of m wire)

-- a register has what `\init` of its wire gives, and a clocked read its INIT_VALUE
abbrev pub first_bit : RtlModule → List ℕ → ℕ → RtlCell → ℕ → CellKind → Option Bool
first_bit m wire i c k Dff = init_bit m wire i
first_bit m wire i c k Adff = init_bit m wire i
first_bit m wire i c k MemoryRead = slice_get (bits_at c (codes "\\INIT_VALUE")) k
first_bit m wire i c k kind = None

abbrev pub first_register : RtlModule → List ℕ → ℕ → Driver → Option Bool
first_register m wire i (ByCell c k) = first_bit m wire i c k c.kind
first_register m wire i ByInput = None
first_register m wire i (ByLink l k) = None
first_register m wire i ByNone = None

abbrev pub constant_value : Source → Option Bool
constant_value (Constant b) = Some b
constant_value (Net wire i) = None

-- bit k of a row in DATA of `$meminit_v2`, where row 0 is the lowest
abbrev pub data_bit : List RtlCell → ℕ → ℕ → Option Bool
data_bit [] row k = None
data_bit (c ∷ cells) row k =
    if nat_lt k (number_at c (codes "\\WIDTH")) then option_and_then constant_value (slice_get (end_bits c (codes "\\DATA")) (row * number_at c (codes "\\WIDTH") + k)) else None

abbrev pub first_state : RtlModule → State
first_state m = record {
  registers = λ wire i. first_register m wire i (driver m wire i);
  rows = λ id row k. data_bit (inits_of m id) row k;
}

-- ---- one event, between the old inputs and the new ones

-- 0 and then 1, or 1 and then 0 where the polarity is 0
abbrev pub is_edge : (polarity : ℕ) → Option Bool → Option Bool → Bool
is_edge polarity (Some old) (Some new) = if polarity == 1 then not old && new else old && not new
is_edge polarity (Some old) None = false
is_edge polarity None new = false

-- 1, or 0 where the polarity is 0
abbrev pub is_level : (polarity : ℕ) → Option Bool → Bool
is_level polarity (Some b) = if polarity == 1 then b else not b
is_level polarity None = false

-- the cell's clock has its edge, in the old state
abbrev pub acts : RtlModule → State → Inputs → Inputs → RtlCell → Bool
acts m st old new c = is_edge (number_at c (codes "\\CLK_POLARITY")) (end_bit m st old c (codes "\\CLK") 0) (end_bit m st new c (codes "\\CLK") 0)

-- the cell's reset is held under the new inputs, in the old state
abbrev pub is_reset : RtlModule → State → Inputs → RtlCell → Bool
is_reset m st new c = is_level (number_at c (codes "\\ARST_POLARITY")) (end_bit m st new c (codes "\\ARST") 0)

-- where the enable is 1, what is taken, else what was before
abbrev pub enabled : Option Bool → Option Bool → Option Bool → Option Bool
enabled enable taken before = option_and_then (λ on. if on then taken else before) enable

-- bit k of a row after one write: its DATA where it acts, is at that row and has that bit's EN
abbrev pub after_write : RtlModule → State → Inputs → Inputs → ℕ → ℕ → Option Bool → RtlCell → Option Bool
after_write m st old new row k before c =
    if acts m st old new c
    then option_and_then (λ at. if at == row then enabled (end_bit m st old c (codes "\\EN") k) (end_bit m st old c (codes "\\DATA") k) before else before) (address m st old c)
    else before

-- bit k of a row after these writes, of which a later one wins; there is none past the size
abbrev pub after_writes : RtlModule → State → Inputs → Inputs → List RtlCell → List ℕ → ℕ → ℕ → Option Bool
after_writes m st old new writes id row k =
    if nat_lt row (memory_size m id) then fold (after_write m st old new row k) (st.rows id row k) writes else None

-- a clocked read takes the old row, with what the writes of its TRANSPARENCY_MASK put into it
abbrev pub taken_bit : RtlModule → State → Inputs → Inputs → RtlCell → ℕ → Option Bool
taken_bit m st old new c k =
    option_and_then (λ row. after_writes m st old new (masked (bits_at c (codes "\\TRANSPARENCY_MASK")) (writes_of m (memory_id c))) (memory_id c) row k) (address m st old c)

-- bit k of a register takes D at its edge
abbrev pub clocked_bit : RtlModule → State → Inputs → Inputs → RtlCell → ℕ → Option Bool → Option Bool
clocked_bit m st old new c k before = if acts m st old new c then end_bit m st old c (codes "\\D") k else before

-- bit k of what a cell keeps
abbrev pub next_bit : RtlModule → State → Inputs → Inputs → RtlCell → ℕ → Option Bool → CellKind → Option Bool
next_bit m st old new c k before Dff = clocked_bit m st old new c k before
next_bit m st old new c k before Adff =
    if is_reset m st new c then slice_get (bits_at c (codes "\\ARST_VALUE")) k else clocked_bit m st old new c k before
next_bit m st old new c k before MemoryRead =
    if acts m st old new c then enabled (end_bit m st old c (codes "\\EN") 0) (taken_bit m st old new c k) before else before
next_bit m st old new c k before kind = before

abbrev pub next_register : RtlModule → State → Inputs → Inputs → Option Bool → Driver → Option Bool
next_register m st old new before (ByCell c k) = next_bit m st old new c k before c.kind
next_register m st old new before ByInput = before
next_register m st old new before (ByLink l k) = before
next_register m st old new before ByNone = before

abbrev pub step : RtlModule → Inputs → Inputs → State → State
step m old new st = record {
  registers = λ wire i. next_register m st old new (st.registers wire i) (driver m wire i);
  rows = λ id row k. after_writes m st old new (writes_of m id) id row k;
}

-- ---- all events

-- the value of each bit of each wire, by the wire's id and the bit's place
abbrev pub Wires : Type 0
Wires = List ℕ → ℕ → Option Bool

-- from a state and inputs on: now, and after each of the next inputs
abbrev pub history_from : RtlModule → State → Inputs → List Inputs → List Wires
history_from m st inputs [] = wire_bit m st inputs ∷ []
history_from m st inputs (new ∷ more) = wire_bit m st inputs ∷ history_from m (step m inputs new st) new more

-- the wires at the first inputs, and after each event, which gives the inputs after it
abbrev pub rtl_history : RtlModule → Inputs → List Inputs → List Wires
rtl_history m first events = history_from m (first_state m) first events
