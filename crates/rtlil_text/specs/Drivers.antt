-- What drives each bit of a module.
-- Source: Yosys manual, RTLIL text representation: Connections, Wires, Cells; Cell library, for which end is the output.
use Rattle.std.specs.Prelude.{ℕ, suc, ◌==◌, ◌&&◌, Bool, false, if◌then◌else◌, List, [], ◌∷◌, ◌++◌}
use Rattle.std.specs.List.{flat_map, range_with_len}
use Rattle.std.specs.Prelude.{map}
use Rattle.lists.specs.Texts.{text_eq}
use Rattle.rtlil_text.specs.declared.cell.RtlCell.{RtlCell}
use Rattle.rtlil_text.specs.declared.module.RtlWire.{RtlWire}
use Rattle.rtlil_text.specs.declared.module.RtlLink.{RtlLink}
use Rattle.rtlil_text.specs.declared.module.RtlModule.{RtlModule}
use Rattle.rtlil_text.specs.Sources.{Source, Constant, Net, spec_bits, end_bits, is_input, is_input_port}
use Rattle.rtlil_text.specs.CellTables.{output_of}

-- the bits that a cell's output drives
abbrev pub output_bits : RtlCell → List Source
output_bits c = end_bits c (output_of c.kind)

-- the bits that cells and links drive, in the text's order
abbrev pub driven_bits : RtlModule → List Source
driven_bits m = flat_map output_bits m.cells ++ flat_map (λ (l : RtlLink). spec_bits l.left) m.links

abbrev pub wire_bits : RtlWire → List Source
wire_bits w = map (λ i. Net w.id i) (range_with_len 0 w.width)

-- the bits that must have a driver: those of the wires that are no inputs
abbrev pub inner_bits : RtlModule → List Source
inner_bits m = flat_map (λ (w : RtlWire). if is_input_port w.port then [] else wire_bits w) m.wires

-- bit k of what an input, a link's right side or a cell's output gives
pub data Driver : Type 0 where
  ByInput : Driver
  ByLink : RtlLink → ℕ → Driver
  ByCell : RtlCell → ℕ → Driver
  ByNone : Driver

-- each bit with its driver, counted from k on
abbrev pub numbered : (ℕ → Driver) → ℕ → List Source → List (Source × Driver)
numbered by k [] = []
numbered by k (s ∷ ss) = (s, by k) ∷ numbered by (suc k) ss

abbrev pub drivers : RtlModule → List (Source × Driver)
drivers m = flat_map (λ c. numbered (ByCell c) 0 (output_bits c)) m.cells ++ flat_map (λ (l : RtlLink). numbered (ByLink l) 0 (spec_bits l.left)) m.links

abbrev pub is_bit : List ℕ → ℕ → Source → Bool
is_bit wire i (Constant b) = false
is_bit wire i (Net id k) = text_eq id wire && (k == i)

-- the first driver of bit i of a wire
abbrev pub driver_in : List ℕ → ℕ → List (Source × Driver) → Driver
driver_in wire i [] = ByNone
driver_in wire i ((s, d) ∷ more) = if is_bit wire i s then d else driver_in wire i more

abbrev pub driver : RtlModule → List ℕ → ℕ → Driver
driver m wire i = if is_input m wire then ByInput else driver_in wire i (drivers m)
