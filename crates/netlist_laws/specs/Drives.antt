-- What the cells and links of a drawing drive.
use Rattle.std.specs.Prelude.{◌≡◌, ℕ, List, ◌++◌}
use Rattle.std.specs.List.{flat_map}
use Rattle.shape_rules.specs.declared.op.Op.{Op}
use Rattle.rtlil_text.specs.declared.module.RtlLink.{RtlLink}
use Rattle.rtlil_text.specs.Sources.{Source, spec_bits}
use Rattle.rtlil_text.specs.Drivers.{output_bits, wire_bits}
use Rattle.netlist_laws.specs.Operators.{Value, Drawing, whole, operator_drawing}

abbrev pub drawn_bits : Drawing → List Source
drawn_bits d = flat_map output_bits d.cells ++ flat_map (λ (l : RtlLink). spec_bits l.left) d.links

-- the drawing drives each bit of its inner wires once, in their order, and then each bit of the result
abbrev pub DrivesOperator : Op → Type 0
DrivesOperator o =
    (n : ℕ) (a b y : Value) → drawn_bits (operator_drawing o n a b y) ≡ flat_map wire_bits (operator_drawing o n a b y).wires ++ spec_bits (whole y)
