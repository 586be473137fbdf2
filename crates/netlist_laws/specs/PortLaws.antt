-- What is proved of the drawings of a memory's ports: where the wires of expressions carry their numbers, the cells carry what the
-- ports of the design do.
-- Internal: no rule of the language.
use Rattle.std.specs.Prelude.{◌≡◌, ◌≤◌, ◌<◌, ◌+◌, ℕ, Bool, true, false, if◌then◌else◌, max, List, length, ℤ, Some, None}
use Rattle.shape_rules.specs.Forms.{unsigned}
use Rattle.shape_rules.specs.declared.cell.CellKind.TheVariants.{MemoryRead}
use Rattle.design_ir.specs.declared.ids.ExprId.{ExprId}
use Rattle.design_ir.specs.declared.memory.MemWrite.{MemWrite}
use Rattle.design_ir.specs.declared.memory.MemRead.{MemRead}
use Rattle.design_ir.specs.declared.memory.Memory.{Memory}
use Rattle.design_ir.specs.PoolRules.{IsPool}
use Rattle.design_ir.specs.Values.{form, num, signal_form}
use Rattle.design_ir.specs.Circuits.{Circuit, FitsSignals}
use Rattle.design_ir.specs.Rows.{row_at}
use Rattle.design_ir.specs.Designs.{IsWritePort, IsReadPort, IsUsableOf}
use Rattle.design_ir.specs.Steps.{port_active}
use Rattle.rtlil_text.specs.declared.sig.SigPart.{SigPart}
use Rattle.rtlil_text.specs.declared.module.RtlModule.{RtlModule}
use Rattle.rtlil_text.specs.Meaning.{State, memory_size, source_value, comb_bit}
use Rattle.rtlil_text.specs.History.{Wires, wire_bit, acts}
use Rattle.memory_cells.specs.declared.plan.Plan.{Plan}
use Rattle.memory_cells.specs.Bits.{bit_of}
use Rattle.memory_cells.specs.Carried.{HasRows, Moment, CarriesWrite, CarriesRead}
use Rattle.memory_cells.specs.Laws.{IsBehindGuard, flag_after}
use Rattle.netlist_laws.specs.Ids.{step_id}
use Rattle.netlist_laws.specs.Cells.{mux_cell}
use Rattle.netlist_laws.specs.Operands.{wire_part}
use Rattle.netlist_laws.specs.Operators.{one_bit, whole}
use Rattle.netlist_laws.specs.Carried.{Carries, ObeysCell, Obeys}
use Rattle.netlist_laws.specs.SignalDrawings.{wire_id, signal_value, expr_value}
use Rattle.netlist_laws.specs.MemoryDrawings.{names_rows, address_guard, is_row, zeros_unless, enable_spec, write_enable, writing, read_enable, reading}

-- before an event: numbers of their shapes, on the wires of all expressions
pub record IsCarried (t : Moment) : Type 0 where
  pub pool : IsPool t.design.pool
  pub fits : FitsSignals t.design.pool t.env
  pub exprs : (e : ExprId) → e.0 < length t.design.pool.exprs → Carries (wire_bit t.rtl t.st t.old) (expr_value t.design e.0) (num t.design.pool t.env e.0)

-- as wide as a guarded address
abbrev pub HasAddress : Plan → Circuit → ExprId → Type 0
HasAddress p c e = p.address ≡ max 1 (form c.pool e.0).width

-- ---- write ports

-- the enable goes through a multiplexer, unless each address names a row
abbrev pub ObeysEnable : Wires → Circuit → Memory → ℕ → MemWrite → Type 0
ObeysEnable wires c m n w =
    names_rows c m w.addr ≡ false → ObeysCell wires (zeros_unless (step_id (n + 4)) m.shape.width (enable_spec m w) (is_row c m n w.addr) (wire_part (step_id (n + 5)) 0 m.shape.width))

-- where its clock has its edge with the port's domain, and the wires obey its drawing, the cell of a write port carries the port
abbrev pub WritePortsAreMade : Type 0
WritePortsAreMade =
    (t : Moment) (p : Plan) (m : Memory) (k n : ℕ) (w : MemWrite) → IsCarried t → 1 ≤ m.depth → IsWritePort t.design m w → HasAddress p t.design w.addr
    → acts t.rtl t.st t.old t.new (writing t.design p m k n w (write_enable t.design m n w)) ≡ port_active t.design t.env t.listed (Some w.domain)
    → Obeys (wire_bit t.rtl t.st t.old) (address_guard t.design m n w.addr) → ObeysEnable (wire_bit t.rtl t.st t.old) t.design m n w
    → CarriesWrite t m (writing t.design p m k n w (write_enable t.design m n w)) w

-- ---- read ports without a clock

-- the cell of such a port gives these bits
abbrev pub GivesRow : RtlModule → State → Wires → Circuit → Plan → Memory → (n : ℕ) → MemRead → List ℕ → List SigPart → Type 0
GivesRow rtl st wires c p m n r id word = (i : ℕ) → i < m.shape.width → wires id i ≡ comb_bit rtl st (source_value wires) (reading c p m n r None word) i MemoryRead

-- into the port's signal where each address names a row, else into a wire before a multiplexer
pub record ObeysRead (rtl : RtlModule) (st : State) (wires : Wires) (c : Circuit) (p : Plan) (m : Memory) (n : ℕ) (r : MemRead) : Type 0 where
  pub exact : names_rows c m r.addr ≡ true → GivesRow rtl st wires c p m n r (wire_id c r.word.0) (whole (signal_value c r.word.0))
  pub raw : names_rows c m r.addr ≡ false → GivesRow rtl st wires c p m n r (step_id (n + 5)) (wire_part (step_id (n + 5)) 0 m.shape.width)
  pub guard : names_rows c m r.addr ≡ false → ObeysCell wires (zeros_unless (step_id (n + 6)) m.shape.width (wire_part (step_id (n + 5)) 0 m.shape.width) (is_row c m n r.addr) (whole (signal_value c r.word.0)))

-- where the address's wire carries its number and the state has the rows, the port's signal has the bits of what the port reads
abbrev pub CombReadsAreMade : Type 0
CombReadsAreMade =
    (c : Circuit) (env : List ℤ) (rtl : RtlModule) (st : State) (wires : Wires) (p : Plan) (m : Memory) (n : ℕ) (r : MemRead) (rows : List ℤ)
    → IsPool c.pool → FitsSignals c.pool env → 1 ≤ m.depth → IsReadPort c m r → HasAddress p c r.addr → Carries wires (expr_value c r.addr.0) (num c.pool env r.addr.0)
    → length rows ≡ m.depth → HasRows m.shape.width m.depth p.id st rows → memory_size rtl p.id ≡ m.depth
    → Obeys wires (address_guard c m n r.addr) → ObeysRead rtl st wires c p m n r
    → (i : ℕ) → i < m.shape.width → wires (wire_id c r.word.0) i ≡ Some (bit_of (row_at c.pool env rows r.addr) i)

-- ---- read ports at a clock

-- the domain and the enable of such a port
pub record IsClockedPort (c : Circuit) (r : MemRead) (d : List ℕ) (e : ExprId) : Type 0 where
  pub domain : r.domain ≡ Some d
  pub enable : r.enable ≡ Some e
  pub usable : IsUsableOf c (unsigned 1) e

-- the cell of the port carries it, whatever wire it gives
abbrev pub ClockedReadsAreMade : Type 0
ClockedReadsAreMade =
    (t : Moment) (p : Plan) (m : Memory) (n : ℕ) (r : MemRead) (d : List ℕ) (e : ExprId) (word : List SigPart) → IsCarried t → 1 ≤ m.depth → IsReadPort t.design m r → HasAddress p t.design r.addr → IsClockedPort t.design r d e
    → acts t.rtl t.st t.old t.new (reading t.design p m n r (Some d) word) ≡ port_active t.design t.env t.listed r.domain
    → Obeys (wire_bit t.rtl t.st t.old) (address_guard t.design m n r.addr) → CarriesRead t m (reading t.design p m n r (Some d) word) r

-- the wire before the flag's register has what the flag is after an edge of the port's domain
abbrev pub FlagsAreMade : Type 0
FlagsAreMade =
    (t : Moment) (m : Memory) (n : ℕ) (r : MemRead) (d : List ℕ) (e : ExprId) (flag : Bool) → IsCarried t → 1 ≤ m.depth → IsReadPort t.design m r → IsClockedPort t.design r d e
    → Obeys (wire_bit t.rtl t.st t.old) (address_guard t.design m n r.addr) → wire_bit t.rtl t.st t.old (step_id (n + 8)) 0 ≡ Some flag
    → ObeysCell (wire_bit t.rtl t.st t.old) (mux_cell (step_id (n + 9)) 1 (one_bit (step_id (n + 8))) (is_row t.design m n r.addr) (read_enable t.design r.enable) (one_bit (step_id (n + 10))))
    → (next : Bool) × (wire_bit t.rtl t.st t.old (step_id (n + 10)) 0 ≡ Some next) × ((if port_active t.design t.env t.listed r.domain then next else flag) ≡ flag_after t m r flag)

-- the port's signal has the bits of the read data where the flag and the bits behind it stand for that
abbrev pub WordsAreShown : Type 0
WordsAreShown =
    (wires : Wires) (c : Circuit) (m : Memory) (n : ℕ) (r : MemRead) → (signal_form c.pool.signals r.word.0).width ≡ m.shape.width → (word : ℤ) (flag : Bool) (raw : ℕ → Bool)
    → wires (step_id (n + 8)) 0 ≡ Some flag → ((i : ℕ) → i < m.shape.width → wires (step_id (n + 5)) i ≡ Some (raw i)) → ((i : ℕ) → i < m.shape.width → IsBehindGuard word i flag (raw i))
    → ObeysCell wires (zeros_unless (step_id (n + 6)) m.shape.width (wire_part (step_id (n + 5)) 0 m.shape.width) (one_bit (step_id (n + 8))) (whole (signal_value c r.word.0)))
    → (i : ℕ) → i < m.shape.width → wires (wire_id c r.word.0) i ≡ Some (bit_of word i)
