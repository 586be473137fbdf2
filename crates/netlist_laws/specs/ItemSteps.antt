-- The cells of items and patterns, one at a time.
use Rattle.std.specs.Prelude.{ℕ, ◌+◌, List, [], ◌∷◌, pos}
use Rattle.shape_rules.specs.Forms.{unsigned}
use Rattle.shape_rules.specs.declared.cell.CellKind.TheVariants as kind
use Rattle.netlist_laws.specs.Ids.{part_id}
use Rattle.netlist_laws.specs.Cells.{binary_cell, mux_cell}
use Rattle.netlist_laws.specs.Operands.{wire_part, at_width, at_form, const_operand}
use Rattle.netlist_laws.specs.Operators.{Value, Drawing, nothing, inner_wire, whole, one_bit, as_form}
use Rattle.netlist_laws.specs.Expressions.{picked}

-- an item where the index is i, else what comes on part n + 3
abbrev pub item_drawing : ℕ → Value → ℕ → Value → Value → Drawing
item_drawing n index i item into = record {
  wires = inner_wire (part_id (n + 1)) 1 ∷ inner_wire (part_id (n + 3)) into.form.width ∷ [];
  cells =
      binary_cell kind.Eq (part_id n) (as_form index index.form) (const_operand index.form (pos i)) 1 (one_bit (part_id (n + 1)))
      ∷ mux_cell (part_id (n + 2)) into.form.width (wire_part (part_id (n + 3)) 0 into.form.width) (at_width item.id item.form into.form.width) (one_bit (part_id (n + 1))) (whole into) ∷ [];
  links = [];
}

-- the items from number i on
abbrev pub picked_from : ℕ → Value → ℕ → List Value → Value → Drawing
picked_from n index i [] into = nothing
picked_from n index i (first ∷ more) into = picked n index i first more into

-- whether one of two inner bits is 1
abbrev pub either_drawing : ℕ → Value → Drawing
either_drawing n into = record {
  wires = inner_wire (part_id (n + 5)) 1 ∷ [];
  cells = binary_cell kind.Or (part_id (n + 4)) (at_form (part_id (n + 3)) (unsigned 1) (unsigned 1)) (at_form (part_id (n + 5)) (unsigned 1) (unsigned 1)) 1 (whole into) ∷ [];
  links = [];
}
