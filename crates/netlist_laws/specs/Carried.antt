-- Wires that carry the bits of integers, where cells and links decide what is on them.
use Rattle.std.specs.Prelude.{◌≡◌, ◌<◌, ℕ, List, slice_get, Some, ℤ, All}
use Rattle.amh_bits.specs.Patterns.{pattern, IsOf}
use Rattle.shape_rules.specs.Forms.{Form, IsForm}
use Rattle.shape_rules.specs.Operators.{form_of, integer_of}
use Rattle.shape_rules.specs.Stops.{IsTaken}
use Rattle.shape_rules.specs.declared.op.Op.{Op}
use Rattle.rtlil_text.specs.declared.cell.RtlCell.{RtlCell}
use Rattle.rtlil_text.specs.declared.module.RtlLink.{RtlLink}
use Rattle.rtlil_text.specs.Sources.{Net, spec_bits, end_width}
use Rattle.rtlil_text.specs.CellTables.{output_of}
use Rattle.rtlil_text.specs.Drivers.{output_bits}
use Rattle.rtlil_text.specs.Cells.{number_bits, bit_at, cell_bit}
use Rattle.rtlil_text.specs.Meaning.{source_value}
use Rattle.rtlil_text.specs.History.{Wires}
use Rattle.netlist_laws.specs.Operators.{Value, Drawing, operator_drawing}

-- the number is one of the shape
abbrev pub IsIn : Form → ℤ → Type 0
IsIn f x = IsOf f.signed f.width x

-- the value's wire has the bits of this integer
abbrev pub Carries : Wires → Value → ℤ → Type 0
Carries wires v x = (i : ℕ) → i < v.form.width → wires v.id i ≡ slice_get (number_bits v.form.width (pattern v.form.width x)) i

-- each bit at the output of a cell is what the cell makes of the bits at its other ends
abbrev pub ObeysCell : Wires → RtlCell → Type 0
ObeysCell wires c =
    (k : ℕ) (id : List ℕ) (i : ℕ) → slice_get (output_bits c) k ≡ Some (Net id i) → wires id i ≡ cell_bit (source_value wires) c (end_width c (output_of c.kind)) k c.kind

-- each bit on the left of a link is the one on its right
abbrev pub ObeysLink : Wires → RtlLink → Type 0
ObeysLink wires l =
    (k : ℕ) (id : List ℕ) (i : ℕ) → slice_get (spec_bits l.left) k ≡ Some (Net id i) → wires id i ≡ bit_at (source_value wires) (spec_bits l.right) k

pub record Obeys (wires : Wires) (d : Drawing) : Type 0 where
  pub cells : All (ObeysCell wires) d.cells
  pub links : All (ObeysLink wires) d.links

-- where the operands' wires carry two numbers, the wire of the result carries the operator's integer
abbrev pub MakesOperator : Op → Type 0
MakesOperator o =
    (wires : Wires) (n : ℕ) (a b y : Value) (x z : ℤ) → IsForm a.form.width a.form.signed → IsForm b.form.width b.form.signed → IsTaken o a.form b.form → y.form ≡ form_of o a.form b.form
    → IsIn a.form x → IsIn b.form z → Carries wires a x → Carries wires b z
    → Obeys wires (operator_drawing o n a b y) → Carries wires y (integer_of o a.form x b.form z)
