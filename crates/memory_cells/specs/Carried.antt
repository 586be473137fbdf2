-- What wires carry at the ends of a memory's cells, beside what the ports of a design do.
-- Internal: no rule of the language.
use Rattle.std.specs.Prelude.{◌≡◌, ◌<◌, ℕ, ◌&&◌, nat_lt, not, List, ℤ, Some, codes}
use Rattle.std.specs.List.{AllZip}
use Rattle.shape_rules.specs.Operators.{is_zero}
use Rattle.design_ir.specs.declared.ids.ExprId.{ExprId}
use Rattle.design_ir.specs.declared.ids.DomainId.{DomainId}
use Rattle.design_ir.specs.declared.memory.MemWrite.{MemWrite}
use Rattle.design_ir.specs.declared.memory.MemRead.{MemRead}
use Rattle.design_ir.specs.declared.memory.Memory.{Memory}
use Rattle.design_ir.specs.Values.{num}
use Rattle.design_ir.specs.Circuits.{Circuit, option_test, at}
use Rattle.design_ir.specs.Rows.{address, enabled_bits}
use Rattle.design_ir.specs.Steps.{port_active}
use Rattle.rtlil_text.specs.declared.cell.RtlCell.{RtlCell}
use Rattle.rtlil_text.specs.declared.module.RtlModule.{RtlModule}
use Rattle.rtlil_text.specs.Meaning.{Inputs, State}
use Rattle.rtlil_text.specs.History as rtl
use Rattle.memory_cells.specs.Bits.{bit_of, is_set}
use Rattle.memory_cells.specs.Plans.{guarded}

-- the rows of a memory have the bits of these numbers
abbrev pub HasRows : (width depth : ℕ) → List ℕ → State → List ℤ → Type 0
HasRows width depth id st rows = (row k : ℕ) → row < depth → k < width → st.rows id row k ≡ Some (bit_of (at rows row) k)

-- an event as both sides see it: the environment and the domains that it lists, and the state and the inputs before and after it
pub record Moment : Type 0 where
  pub design : Circuit
  pub env : List ℤ
  pub listed : List DomainId
  pub rtl : RtlModule
  pub st : State
  pub old : Inputs
  pub new : Inputs

abbrev pub address_at : Moment → ExprId → ℕ
address_at t e = address t.design.pool t.env e

-- a write cell acts where its port's domain is active, at a guarded address, with the bits of the port's word, and lets the enabled bits
-- through where the address is one of a row
pub record CarriesWrite (t : Moment) (m : Memory) (c : RtlCell) (w : MemWrite) : Type 0 where
  pub acts : rtl.acts t.rtl t.st t.old t.new c ≡ port_active t.design t.env t.listed (Some w.domain)
  pub address : rtl.address t.rtl t.st t.old c ≡ Some (guarded m.depth (address_at t w.addr))
  pub enable : (k : ℕ) → k < m.shape.width → rtl.end_bit t.rtl t.st t.old c (codes "\\EN") k ≡ Some (nat_lt (address_at t w.addr) m.depth && is_set (enabled_bits t.design.pool t.env m w) k)
  pub word : (k : ℕ) → k < m.shape.width → rtl.end_bit t.rtl t.st t.old c (codes "\\DATA") k ≡ Some (bit_of (num t.design.pool t.env w.word.0) k)

-- the write cells of a memory are those of its ports, in order
abbrev pub CarryWrites : Moment → Memory → List RtlCell → List MemWrite → Type 0
CarryWrites t m cells writes = AllZip (CarriesWrite t m) cells writes

-- a clocked read cell acts where its port's domain is active, at a guarded address, where the port is enabled
pub record CarriesRead (t : Moment) (m : Memory) (c : RtlCell) (r : MemRead) : Type 0 where
  pub acts : rtl.acts t.rtl t.st t.old t.new c ≡ port_active t.design t.env t.listed r.domain
  pub address : rtl.address t.rtl t.st t.old c ≡ Some (guarded m.depth (address_at t r.addr))
  pub enable : rtl.end_bit t.rtl t.st t.old c (codes "\\EN") 0 ≡ Some (option_test (λ (e : ExprId). not (is_zero (num t.design.pool t.env e.0))) r.enable)
