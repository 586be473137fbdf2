-- Which bits have a first value.
-- Source: Yosys manual, RTLIL text representation: Attribute statements; Cell library: registers; that no other wire has one: own rule (docs/RULES.md).
use Rattle.std.specs.Prelude.{is_some, Bool, true, false, if◌then◌else◌, List, [], IsPermutation}
use Rattle.std.specs.List.{flat_map}
use Rattle.shape_rules.specs.declared.cell.CellKind.{CellKind}
use Rattle.shape_rules.specs.declared.cell.CellKind.TheVariants.{Dff, Adff}
use Rattle.rtlil_text.specs.declared.cell.RtlCell.{RtlCell}
use Rattle.rtlil_text.specs.declared.module.RtlWire.{RtlWire}
use Rattle.rtlil_text.specs.declared.module.RtlModule.{RtlModule}
use Rattle.rtlil_text.specs.Sources.{Source}
use Rattle.rtlil_text.specs.Drivers.{output_bits, wire_bits}

abbrev pub is_register_kind : CellKind → Bool
is_register_kind Dff = true
is_register_kind Adff = true
is_register_kind kind = false

-- the bits that a cell gives where it is a register
abbrev pub registered_bits : RtlCell → List Source
registered_bits c = if is_register_kind c.kind then output_bits c else []

-- the bits that registers drive, in the text's order
abbrev pub register_bits : RtlModule → List Source
register_bits m = flat_map registered_bits m.cells

-- the bits of a wire where it has `\init`
abbrev pub begun_bits : RtlWire → List Source
begun_bits w = if is_some w.init then wire_bits w else []

-- the bits of the wires that have `\init`
abbrev pub first_bits : RtlModule → List Source
first_bits m = flat_map begun_bits m.wires

-- registers drive each bit of each wire that has `\init`, and no bit of any other
abbrev pub InitsAreOfRegisters : RtlModule → Type 0
InitsAreOfRegisters m = IsPermutation (register_bits m) (first_bits m)
