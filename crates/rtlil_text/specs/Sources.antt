-- What stands in a module under a name, and the bits that its specs name.
-- Source: Yosys manual, RTLIL text representation: Signal specifications, Wires, Cells.
use Rattle.std.specs.Prelude.{ℕ, ◌&&◌, Bool, true, false, if◌then◌else◌, List, [], ◌∷◌, ◌++◌, map, length, Option, Some, None, option_map, unwrap_or, codes}
use Rattle.std.specs.List.{find, range_with_len, list_any}
use Rattle.std.specs.Str.{bytes_eq}
use Rattle.lists.specs.Texts.{text_eq}
use Rattle.rtlil_text.specs.declared.sig.SigPart.{SigPart}
use Rattle.rtlil_text.specs.declared.sig.SigPart.TheVariants as parts
use Rattle.rtlil_text.specs.declared.cell.RtlValue.{RtlValue}
use Rattle.rtlil_text.specs.declared.cell.RtlValue.TheVariants as values
use Rattle.rtlil_text.specs.declared.cell.RtlParameter.{RtlParameter}
use Rattle.rtlil_text.specs.declared.cell.RtlEnd.{RtlEnd}
use Rattle.rtlil_text.specs.declared.cell.RtlCell.{RtlCell}
use Rattle.rtlil_text.specs.declared.module.WirePort.{WirePort}
use Rattle.rtlil_text.specs.declared.module.WirePort.TheVariants.{Inner, Input, Output}
use Rattle.rtlil_text.specs.declared.module.RtlWire.{RtlWire}
use Rattle.rtlil_text.specs.declared.module.RtlMemory.{RtlMemory}
use Rattle.rtlil_text.specs.declared.module.RtlModule.{RtlModule}

-- a constant bit, or bit `index` of a wire
pub data Source : Type 0 where
  Constant : Bool → Source
  Net : (wire : List ℕ) (index : ℕ) → Source

-- the bits of a part, the lowest first
abbrev pub part_bits : SigPart → List Source
part_bits (parts.Const bits) = map Constant bits
part_bits (parts.Wire id low width) = map (λ i. Net id i) (range_with_len low width)

-- the bits of a spec, the lowest first: its first part is the highest
abbrev pub spec_bits : List SigPart → List Source
spec_bits [] = []
spec_bits (p ∷ ps) = spec_bits ps ++ part_bits p

-- ---- what stands under a name

abbrev pub wire_of : RtlModule → List ℕ → Option RtlWire
wire_of m id = find (λ (w : RtlWire). text_eq w.id id) m.wires

abbrev pub memory_of : RtlModule → List ℕ → Option RtlMemory
memory_of m id = find (λ (r : RtlMemory). text_eq r.id id) m.memories

abbrev pub end_of : RtlCell → List ℕ → Option (List SigPart)
end_of c name = option_map (λ (e : RtlEnd). e.spec) (find (λ (e : RtlEnd). text_eq e.name name) c.ends)

abbrev pub parameter_of : RtlCell → List ℕ → Option RtlValue
parameter_of c name = option_map (λ (p : RtlParameter). p.value) (find (λ (p : RtlParameter). text_eq p.name name) c.parameters)

-- the bits at an end, the lowest first
abbrev pub end_bits : RtlCell → List ℕ → List Source
end_bits c name = spec_bits (unwrap_or (end_of c name) [])

abbrev pub end_width : RtlCell → List ℕ → ℕ
end_width c name = length (end_bits c name)

-- ---- the parameters of a cell, by their form

abbrev pub as_number : RtlValue → ℕ
as_number (values.Number n) = n
as_number (values.Bits bits) = 0
as_number (values.Id id) = 0

abbrev pub as_bits : RtlValue → List Bool
as_bits (values.Number n) = []
as_bits (values.Bits bits) = bits
as_bits (values.Id id) = []

abbrev pub as_id : RtlValue → List ℕ
as_id (values.Number n) = []
as_id (values.Bits bits) = []
as_id (values.Id id) = id

abbrev pub number_at : RtlCell → List ℕ → ℕ
number_at c name = unwrap_or (option_map as_number (parameter_of c name)) 0

abbrev pub bits_at : RtlCell → List ℕ → List Bool
bits_at c name = unwrap_or (option_map as_bits (parameter_of c name)) []

-- the id of the memory of a memory cell
abbrev pub memory_id : RtlCell → List ℕ
memory_id c = unwrap_or (option_map as_id (parameter_of c (codes "\\MEMID"))) []

-- ---- ports

abbrev pub is_input_port : WirePort → Bool
is_input_port Inner = false
is_input_port (Input n) = true
is_input_port (Output n) = false

abbrev pub is_input : RtlModule → List ℕ → Bool
is_input m id = list_any (λ (w : RtlWire). text_eq w.id id && is_input_port w.port) m.wires

-- the number of a port; an inner wire has none
abbrev pub port_number : WirePort → List ℕ
port_number Inner = []
port_number (Input n) = n ∷ []
port_number (Output n) = n ∷ []

-- the field `input` or `output` of a port
abbrev pub port_field : WirePort → List ℕ → Option ℕ
port_field Inner name = None
port_field (Input n) name = if bytes_eq name (codes "input") then Some n else None
port_field (Output n) name = if bytes_eq name (codes "output") then Some n else None

-- the number in a field of a wire
abbrev pub field_of : RtlWire → List ℕ → Option ℕ
field_of w name = if bytes_eq name (codes "width") then Some w.width else port_field w.port name
