-- The rules on a module, beside the grammar of its text.
-- Source: Yosys manual, RTLIL text representation: Modules, Wires, Cells; one driver for each bit: own rule (docs/RULES.md).
use Rattle.std.specs.Prelude.{◌≡◌, ◌≤◌, ◌+◌, ℕ, List, ◌++◌, map, length, All, IfSome, Contains, IsPermutation}
use Rattle.std.specs.List.{flat_map, range_with_len}
use Rattle.shape_rules.specs.declared.cell.CellKind.{CellKind}
use Rattle.shape_rules.specs.declared.cell.CellKind.TheVariants.{Not, And, Or, Xor, ReduceOr, ReduceAnd, ReduceXor, Add, Sub, Mul, Eq, Lt, Le, Shl, Shr, Sshr, DivFloor, ModFloor, Mux, Dff, Adff, MemoryRead, MemoryWrite, MemoryInit, Many}
use Rattle.rtlil_text.specs.declared.sig.SigPart.{SigPart}
use Rattle.rtlil_text.specs.declared.sig.SigPart.TheVariants as parts
use Rattle.rtlil_text.specs.declared.cell.RtlValue.{RtlValue}
use Rattle.rtlil_text.specs.declared.cell.RtlValue.TheVariants as values
use Rattle.rtlil_text.specs.declared.cell.RtlParameter.{RtlParameter}
use Rattle.rtlil_text.specs.declared.cell.RtlEnd.{RtlEnd}
use Rattle.rtlil_text.specs.declared.cell.RtlCell.{RtlCell}
use Rattle.rtlil_text.specs.declared.module.RtlWire.{RtlWire}
use Rattle.rtlil_text.specs.declared.module.RtlMemory.{RtlMemory}
use Rattle.rtlil_text.specs.declared.module.RtlLink.{RtlLink}
use Rattle.rtlil_text.specs.declared.module.RtlModule.{RtlModule}
use Rattle.rtlil_text.specs.Ids.{AreDistinct, IsId, IsPublicId}
use Rattle.rtlil_text.specs.Sources.{spec_bits, port_number}
use Rattle.rtlil_text.specs.CellTables.{value_form, parameters_of, ends_of}
use Rattle.rtlil_text.specs.Drivers.{driven_bits, inner_bits}
use Rattle.rtlil_text.specs.CellRules.{FitsNot, FitsReduction, FitsArithmetic, FitsComparison, FitsShift, FitsSignedShift, FitsMux, FitsRegister, FitsResetRegister}
use Rattle.rtlil_text.specs.MemoryRules.{FitsRead, FitsWrite, FitsInit, MemoryFits}

-- the ids of all that has one
abbrev pub module_ids : RtlModule → List (List ℕ)
module_ids m = map (λ (w : RtlWire). w.id) m.wires ++ map (λ (r : RtlMemory). r.id) m.memories ++ map (λ (c : RtlCell). c.id) m.cells

-- the numbers of the ports, in the order of the wires
abbrev pub port_numbers : RtlModule → List ℕ
port_numbers m = flat_map (λ (w : RtlWire). port_number w.port) m.wires

pub record WireFits (w : RtlWire) : Type 0 where
  pub wide : 1 ≤ w.width
  pub init : IfSome w.init (λ bits. length bits ≡ w.width)

-- one or more bits of a wire, all of which it has
pub record IsSlice (wires : List RtlWire) (id : List ℕ) (low width : ℕ) : Type 0 where
  pub wire : RtlWire
  pub among : Contains wires wire
  pub named : wire.id ≡ id
  pub some : 1 ≤ width
  pub within : low + width ≤ wire.width

abbrev pub PartFits : List RtlWire → SigPart → Type 0
PartFits wires (parts.Const bits) = Unit {0}
PartFits wires (parts.Wire id low width) = IsSlice wires id low width

abbrev pub SpecFits : List RtlWire → List SigPart → Type 0
SpecFits wires spec = All (PartFits wires) spec

-- the id of a memory stands under a parameter only where it is public
abbrev pub ValueFits : RtlValue → Type 0
ValueFits (values.Number n) = Unit {0}
ValueFits (values.Bits bits) = Unit {0}
ValueFits (values.Id id) = IsPublicId id

-- the rules of each kind
abbrev pub KindFits : RtlModule → RtlCell → CellKind → Type 0
KindFits m c Not = FitsNot c
KindFits m c ReduceOr = FitsReduction c
KindFits m c ReduceAnd = FitsReduction c
KindFits m c ReduceXor = FitsReduction c
KindFits m c And = FitsArithmetic c
KindFits m c Or = FitsArithmetic c
KindFits m c Xor = FitsArithmetic c
KindFits m c Add = FitsArithmetic c
KindFits m c Sub = FitsArithmetic c
KindFits m c Mul = FitsArithmetic c
KindFits m c DivFloor = FitsArithmetic c
KindFits m c ModFloor = FitsArithmetic c
KindFits m c Eq = FitsComparison c
KindFits m c Lt = FitsComparison c
KindFits m c Le = FitsComparison c
KindFits m c Shl = FitsShift c
KindFits m c Shr = FitsShift c
KindFits m c Sshr = FitsSignedShift c
KindFits m c Mux = FitsMux c
KindFits m c Dff = FitsRegister c
KindFits m c Adff = FitsResetRegister c
KindFits m c MemoryRead = FitsRead m c
KindFits m c MemoryWrite = FitsWrite m c
KindFits m c MemoryInit = FitsInit m c
KindFits m c Many = ⊥

-- a cell has exactly the parameters and the ends of its kind, in order, and keeps its rules
pub record CellFits (m : RtlModule) (c : RtlCell) : Type 0 where
  pub parameters : map (λ (p : RtlParameter). (p.name, value_form p.value)) c.parameters ≡ parameters_of c.kind
  pub values : All (λ (p : RtlParameter). ValueFits p.value) c.parameters
  pub ends : map (λ (e : RtlEnd). e.name) c.ends ≡ ends_of c.kind
  pub specs : All (λ (e : RtlEnd). SpecFits m.wires e.spec) c.ends
  pub rules : KindFits m c c.kind

pub record LinkFits (m : RtlModule) (l : RtlLink) : Type 0 where
  pub left : SpecFits m.wires l.left
  pub right : SpecFits m.wires l.right
  pub equal : length (spec_bits l.left) ≡ length (spec_bits l.right)

pub record IsModule (m : RtlModule) : Type 0 where
  pub distinct : AreDistinct (module_ids m)
  pub ids : All IsId (module_ids m)
  pub wires : All WireFits m.wires
  pub memories : All (MemoryFits m) m.memories
  pub cells : All (CellFits m) m.cells
  pub links : All (LinkFits m) m.links
  -- ports are numbered from 1
  pub ports : port_numbers m ≡ range_with_len 1 (length (port_numbers m))
  -- each bit of a wire that is no input has exactly one driver, and nothing else has one
  pub drivers : IsPermutation (driven_bits m) (inner_bits m)
