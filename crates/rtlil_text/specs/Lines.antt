-- The pieces of a text that can be written in one way only.
-- Source: Yosys manual, RTLIL text representation: Values, Strings, Attribute statements, Modules, Wires, Memories, Cells.
use Rattle.std.specs.Prelude.{ℕ, Bool, cond, List, [], ◌∷◌, ◌++◌, map, reverse, length, Option, Some, None, codes}
use Rattle.rtlil_text.specs.Numerals.{numeral}
use Rattle.shape_rules.specs.declared.cell.CellKind.{CellKind}
use Rattle.shape_rules.specs.declared.cell.CellKind.TheVariants.{Not, And, Or, Xor, ReduceOr, ReduceAnd, ReduceXor, Add, Sub, Mul, Eq, Lt, Le, Shl, Shr, Sshr, DivFloor, ModFloor, Mux, Dff, Adff, MemoryRead, MemoryWrite, MemoryInit, Many}
use Rattle.rtlil_text.specs.declared.cell.RtlValue.{RtlValue}
use Rattle.rtlil_text.specs.declared.cell.RtlValue.TheVariants as values
use Rattle.rtlil_text.specs.declared.cell.RtlParameter.{RtlParameter}
use Rattle.rtlil_text.specs.declared.module.WirePort.{WirePort}
use Rattle.rtlil_text.specs.declared.module.WirePort.TheVariants.{Inner, Input, Output}
use Rattle.rtlil_text.specs.declared.module.RtlWire.{RtlWire}
use Rattle.rtlil_text.specs.declared.module.RtlMemory.{RtlMemory}

-- one text, then another; it groups to the right, as `write!` does
infixr 6 ◌▸◌
abbrev pub ◌▸◌ : List ℕ → List ℕ → List ℕ
a ▸ b = a ++ b

abbrev pub end_line : List ℕ
end_line = 10 ∷ []

-- the digits 1 and 0
abbrev pub bit_char : Bool → ℕ
bit_char b = cond b 49 48

-- a width, and the bits, the most significant first
abbrev pub const_text : List Bool → List ℕ
const_text bits = numeral (length bits) ▸ (39 ∷ []) ▸ map bit_char (reverse bits)

abbrev pub port_text : WirePort → List ℕ
port_text Inner = []
port_text (Input n) = codes " input " ▸ numeral n
port_text (Output n) = codes " output " ▸ numeral n

abbrev pub init_line : List Bool → List ℕ
init_line bits = codes "  attribute \\init " ▸ const_text bits ▸ end_line

abbrev pub init_text : Option (List Bool) → List ℕ
init_text None = []
init_text (Some bits) = init_line bits

abbrev pub wire_line : RtlWire → List ℕ
wire_line w = codes "  wire width " ▸ numeral w.width ▸ port_text w.port ▸ codes " " ▸ w.id ▸ end_line

abbrev pub wire_text : RtlWire → List ℕ
wire_text w = init_text w.init ▸ wire_line w

abbrev pub memory_text : RtlMemory → List ℕ
memory_text m = codes "  memory width " ▸ numeral m.width ▸ codes " size " ▸ numeral m.size ▸ codes " " ▸ m.id ▸ end_line

-- an id stands between quotes, with one `\` more
abbrev pub value_text : RtlValue → List ℕ
value_text (values.Number n) = numeral n
value_text (values.Bits bits) = const_text bits
value_text (values.Id id) = codes "\"\\" ▸ id ▸ codes "\""

abbrev pub parameter_text : RtlParameter → List ℕ
parameter_text p = codes "    parameter " ▸ p.name ▸ codes " " ▸ value_text p.value ▸ end_line

-- the name of a kind in the Yosys cell library
abbrev pub kind_text : CellKind → List ℕ
kind_text Not = codes "$not"
kind_text And = codes "$and"
kind_text Or = codes "$or"
kind_text Xor = codes "$xor"
kind_text ReduceOr = codes "$reduce_or"
kind_text ReduceAnd = codes "$reduce_and"
kind_text ReduceXor = codes "$reduce_xor"
kind_text Add = codes "$add"
kind_text Sub = codes "$sub"
kind_text Mul = codes "$mul"
kind_text Eq = codes "$eq"
kind_text Lt = codes "$lt"
kind_text Le = codes "$le"
kind_text Shl = codes "$shl"
kind_text Shr = codes "$shr"
kind_text Sshr = codes "$sshr"
kind_text DivFloor = codes "$divfloor"
kind_text ModFloor = codes "$modfloor"
kind_text Mux = codes "$mux"
kind_text Dff = codes "$dff"
kind_text Adff = codes "$adff"
kind_text MemoryRead = codes "$memrd_v2"
kind_text MemoryWrite = codes "$memwr_v2"
kind_text MemoryInit = codes "$meminit_v2"
kind_text Many = []

abbrev pub cell_line : CellKind → List ℕ → List ℕ
cell_line kind id = codes "  cell " ▸ kind_text kind ▸ codes " " ▸ id ▸ end_line

abbrev pub cell_end : List ℕ
cell_end = codes "  end\n"

abbrev pub head_text : List ℕ
head_text = codes "attribute \\top 1\nmodule \\top\n"

abbrev pub module_end : List ℕ
module_end = codes "end\n"
