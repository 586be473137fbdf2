-- The cells of each operator.
use Rattle.std.specs.Prelude.{ℕ, ◌+◌, ◌==◌, Bool, true, false, max, if◌then◌else◌, List, [], ◌∷◌, ℤ, pos, None}
use Rattle.shape_rules.specs.Forms.{Form, unsigned}
use Rattle.shape_rules.specs.Operators.{work_form}
use Rattle.shape_rules.specs.declared.op.Op.{Op}
use Rattle.shape_rules.specs.declared.op.Op.TheVariants as op
use Rattle.shape_rules.specs.declared.cell.CellKind.{CellKind}
use Rattle.shape_rules.specs.declared.cell.CellKind.TheVariants as kind
use Rattle.rtlil_text.specs.declared.sig.SigPart.{SigPart}
use Rattle.rtlil_text.specs.declared.cell.RtlCell.{RtlCell}
use Rattle.rtlil_text.specs.declared.module.RtlLink.{RtlLink}
use Rattle.rtlil_text.specs.declared.module.RtlWire.{RtlWire}
use Rattle.rtlil_text.specs.declared.module.WirePort.TheVariants.{Inner}
use Rattle.netlist_laws.specs.Ids.{part_id}
use Rattle.netlist_laws.specs.Cells.{Operand, unary_cell, binary_cell, mux_cell}
use Rattle.netlist_laws.specs.Operands.{wire_part, const_spec, at_width, at_form, const_operand}

-- the wire of an expression, with the expression's shape
pub record Value : Type 0 where
  pub id : List ℕ
  pub form : Form

-- inner wires, cells and links
pub record Drawing : Type 0 where
  pub wires : List RtlWire
  pub cells : List RtlCell
  pub links : List RtlLink

abbrev pub nothing : Drawing
nothing = record { wires = []; cells = []; links = [] }

abbrev pub inner_wire : List ℕ → ℕ → RtlWire
inner_wire id width = record { id = id; width = width; port = Inner; init = None }

-- all bits of a value
abbrev pub whole : Value → List SigPart
whole v = wire_part v.id 0 v.form.width

-- one bit of an inner wire
abbrev pub one_bit : List ℕ → List SigPart
one_bit id = wire_part id 0 1

-- a value as an operand of a shape
abbrev pub as_form : Value → Form → Operand
as_form v g = at_form v.id v.form g

abbrev pub one_cell : RtlCell → Drawing
one_cell c = record { wires = []; cells = c ∷ []; links = [] }

-- y is these bits
abbrev pub linked : Value → List SigPart → Drawing
linked y spec = record { wires = []; cells = []; links = record { left = whole y; right = spec } ∷ [] }

-- a shape with at least one bit, since a cell's operands have one
abbrev pub at_least_one : Form → Form
at_least_one g = record g { width = max 1 g.width }

-- ---- one cell

abbrev pub alike : CellKind → ℕ → Form → (a b y : Value) → Drawing
alike k n g a b y = one_cell (binary_cell k (part_id n) (as_form a g) (as_form b g) y.form.width (whole y))

abbrev pub opposite : ℕ → Form → (a y : Value) → Drawing
opposite n g a y = one_cell (binary_cell kind.Sub (part_id n) (const_operand g (pos 0)) (as_form a g) y.form.width (whole y))

abbrev pub compared : CellKind → ℕ → Form → (a b y : Value) → Drawing
compared k n g a b y = one_cell (binary_cell k (part_id n) (as_form a (at_least_one g)) (as_form b (at_least_one g)) 1 (whole y))

-- one bit from all of a, which is this number where a has no bits
abbrev pub reduced : CellKind → ℤ → ℕ → (a y : Value) → Drawing
reduced k empty n a y =
    if a.form.width == 0 then linked y (const_spec 1 empty)
    else one_cell (unary_cell k (part_id n) (as_form a a.form) 1 (whole y))

-- a at the width of y, shifted by b, which is no shift where b has no bits
abbrev pub shifted : CellKind → Bool → ℕ → (a b y : Value) → Drawing
shifted k signed n a b y =
    if b.form.width == 0 then linked y (at_width a.id a.form y.form.width)
    else one_cell (binary_cell k (part_id n) (at_form a.id a.form (record { width = y.form.width; signed = signed })) (as_form b b.form) y.form.width (whole y))

-- ---- several cells

-- unequal: the turned bit of equal
abbrev pub unequal : ℕ → Form → (a b y : Value) → Drawing
unequal n g a b y = record {
  wires = inner_wire (part_id (n + 1)) 1 ∷ [];
  cells =
      binary_cell kind.Eq (part_id n) (as_form a (at_least_one g)) (as_form b (at_least_one g)) 1 (one_bit (part_id (n + 1)))
      ∷ unary_cell kind.Not (part_id (n + 2)) (at_form (part_id (n + 1)) (unsigned 1) (unsigned 1)) 1 (whole y) ∷ [];
  links = [];
}

-- a quotient or a remainder at the shape g: where b is 0 it is worked with 1, and the result is 0
abbrev pub divided : CellKind → ℕ → Form → (a b y : Value) → Drawing
divided k n g a b y = record {
  wires = inner_wire (part_id (n + 1)) 1 ∷ inner_wire (part_id (n + 3)) g.width ∷ inner_wire (part_id (n + 5)) g.width ∷ [];
  cells =
      binary_cell kind.Eq (part_id n) (as_form b g) (const_operand g (pos 0)) 1 (one_bit (part_id (n + 1)))
      ∷ mux_cell (part_id (n + 2)) g.width (at_width b.id b.form g.width) (const_spec g.width (pos 1)) (one_bit (part_id (n + 1))) (wire_part (part_id (n + 3)) 0 g.width)
      ∷ binary_cell k (part_id (n + 4)) (as_form a g) (at_form (part_id (n + 3)) g g) g.width (wire_part (part_id (n + 5)) 0 g.width)
      ∷ mux_cell (part_id (n + 6)) y.form.width (at_width (part_id (n + 5)) g y.form.width) (const_spec y.form.width (pos 0)) (one_bit (part_id (n + 1))) (whole y) ∷ [];
  links = [];
}

-- the size of a signed number, worked at the shape g: its opposite where it is below 0
abbrev pub magnitude : ℕ → Form → (a y : Value) → Drawing
magnitude n g a y = record {
  wires = inner_wire (part_id (n + 1)) 1 ∷ inner_wire (part_id (n + 3)) g.width ∷ [];
  cells =
      binary_cell kind.Lt (part_id n) (as_form a g) (const_operand g (pos 0)) 1 (one_bit (part_id (n + 1)))
      ∷ binary_cell kind.Sub (part_id (n + 2)) (const_operand g (pos 0)) (as_form a g) g.width (wire_part (part_id (n + 3)) 0 g.width)
      ∷ mux_cell (part_id (n + 4)) y.form.width (whole a) (at_width (part_id (n + 3)) g y.form.width) (one_bit (part_id (n + 1))) (whole y) ∷ [];
  links = [];
}

-- ---- the table

-- the wires, cells and links that give y the operator of a and b, worked at the shape g, where part n is the first that is free
abbrev pub operated : Op → ℕ → Form → (a b y : Value) → Drawing
operated op.Add n g a b y = alike kind.Add n g a b y
operated op.Sub n g a b y = alike kind.Sub n g a b y
operated op.Neg n g a b y = opposite n g a y
operated op.Mul n g a b y = alike kind.Mul n g a b y
operated op.Div n g a b y = divided kind.DivFloor n g a b y
operated op.Mod n g a b y = divided kind.ModFloor n g a b y
operated op.Abs n g a b y = if a.form.signed then magnitude n g a y else linked y (whole a)
operated op.Not n g a b y = one_cell (unary_cell kind.Not (part_id n) (as_form a g) y.form.width (whole y))
operated op.And n g a b y = alike kind.And n g a b y
operated op.Or n g a b y = alike kind.Or n g a b y
operated op.Xor n g a b y = alike kind.Xor n g a b y
operated op.Eq n g a b y = compared kind.Eq n g a b y
operated op.Ne n g a b y = unequal n g a b y
operated op.Lt n g a b y = compared kind.Lt n g a b y
operated op.Le n g a b y = compared kind.Le n g a b y
operated op.Gt n g a b y = compared kind.Lt n g b a y
operated op.Ge n g a b y = compared kind.Le n g b a y
operated op.Any n g a b y = reduced kind.ReduceOr (pos 0) n a y
operated op.All n g a b y = reduced kind.ReduceAnd (pos 1) n a y
operated op.Parity n g a b y = reduced kind.ReduceXor (pos 0) n a y
operated op.Shl n g a b y = shifted kind.Shl a.form.signed n a b y
operated op.Shr n g a b y = if a.form.signed then shifted kind.Sshr true n a b y else shifted kind.Shr false n a b y

-- the same at the operator's own work shape; a value without bits takes nothing
unfoldable pub operator_drawing : Op → ℕ → (a b y : Value) → Drawing
operator_drawing o n a b y = if y.form.width == 0 then nothing else operated o n (work_form o a.form b.form) a b y
