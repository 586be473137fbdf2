-- The drawing of each operator: its own ids and wires, and one driver for each bit.
use Rattle.std.specs.Prelude.{◌≡◌, ◌≤◌, ◌+◌, ◌==◌, ℕ, Bool, true, false, cond, [], ◌∷◌, ◌++◌, ℤ, pos, codes}
use Rattle.std.proofs.Common.{refl, sym, ap, arith, subst}
use Rattle.std.proofs.lemmas.Bool.{cond_both, ne_eqb}
use Rattle.shape_rules.specs.Forms.{Form, unsigned, common}
use Rattle.shape_rules.specs.Operators.{form_of, work_form}
use Rattle.shape_rules.specs.declared.op.Op.{Op}
use Rattle.shape_rules.specs.declared.op.Op.TheVariants as op
use Rattle.shape_rules.specs.declared.cell.CellKind.{CellKind}
use Rattle.shape_rules.specs.declared.cell.CellKind.TheVariants as kind
use Rattle.rtlil_text.specs.CellTables.{output_of}
use Rattle.netlist_laws.specs.Ids.{part_id}
use Rattle.netlist_laws.specs.Cells.{Operand, unary_cell, binary_cell, mux_cell}
use Rattle.netlist_laws.specs.Operands.{wire_part, const_spec, at_width, at_form, const_operand}
use Rattle.netlist_laws.specs.Operators.{Value, Drawing, nothing, inner_wire, whole, one_bit, as_form, at_least_one, linked, one_cell, reduced, shifted, unequal, divided, magnitude, operated, operator_drawing}
use Rattle.netlist_laws.proofs.Widths.{common_width_right}
use Rattle.netlist_laws.proofs.Drives.{block, value_bits, IsBare-inner_wire, IsDrawn, IsDrawn-wider, IsDrawn-linked, fresh_places, zero_more, output_bits-unary, output_bits-binary, output_bits-mux}
use Rattle.netlist_laws.proofs.DrawnCells.{fresh_from, IsDrawn-cells, IsDrawn-one_cell}

abbrev IsOperator : ℕ → Value → Drawing → Type 0
IsOperator n y d = IsDrawn part_id n (n + 7) [] (value_bits y) d

module _ (n : ℕ) (y : Value) where
  of_unary : (k : CellKind) (a : Operand) (width : ℕ) → output_of k ≡ codes "\\Y" → IsOperator n y (one_cell (unary_cell k (part_id n) a width (whole y)))
  of_unary k a width e =
      IsDrawn-wider part_id n (n + 1) (n + 7) [] (value_bits y) (one_cell (unary_cell k (part_id n) a width (whole y))) (omega arith)
      (IsDrawn-one_cell part_id n (unary_cell k (part_id n) a width (whole y)) (value_bits y) refl (output_bits-unary k (part_id n) a width y.id y.form.width e))

  of_binary : (k : CellKind) (a b : Operand) (width : ℕ) → output_of k ≡ codes "\\Y" → IsOperator n y (one_cell (binary_cell k (part_id n) a b width (whole y)))
  of_binary k a b width e =
      IsDrawn-wider part_id n (n + 1) (n + 7) [] (value_bits y) (one_cell (binary_cell k (part_id n) a b width (whole y))) (omega arith)
      (IsDrawn-one_cell part_id n (binary_cell k (part_id n) a b width (whole y)) (value_bits y) refl (output_bits-binary k (part_id n) a b width y.id y.form.width e))

  of_reduced : (k : CellKind) (empty : ℤ) (a : Value) → output_of k ≡ codes "\\Y" → IsOperator n y (reduced k empty n a y)
  of_reduced k empty a e =
      cond_both (a.form.width == 0) (linked y (const_spec 1 empty)) (one_cell (unary_cell k (part_id n) (as_form a a.form) 1 (whole y))) (IsOperator n y)
      (λ _. IsDrawn-linked part_id n (n + 7) y (const_spec 1 empty)) (λ _. of_unary k (as_form a a.form) 1 e)

  of_shifted : (k : CellKind) (signed : Bool) (a b : Value) → output_of k ≡ codes "\\Y" → IsOperator n y (shifted k signed n a b y)
  of_shifted k signed a b e =
      cond_both (b.form.width == 0) (linked y (at_width a.id a.form y.form.width))
      (one_cell (binary_cell k (part_id n) (at_form a.id a.form (record { width = y.form.width; signed = signed })) (as_form b b.form) y.form.width (whole y))) (IsOperator n y)
      (λ _. IsDrawn-linked part_id n (n + 7) y (at_width a.id a.form y.form.width)) (λ _. of_binary k (at_form a.id a.form (record { width = y.form.width; signed = signed })) (as_form b b.form) y.form.width e)

  of_unequal : (g : Form) (a b : Value) → IsOperator n y (unequal n g a b y)
  of_unequal g a b =
      IsDrawn-cells part_id n (n + 7) (inner_wire (part_id (n + 1)) 1 ∷ [])
      (binary_cell kind.Eq (part_id n) (as_form a (at_least_one g)) (as_form b (at_least_one g)) 1 (one_bit (part_id (n + 1)))
      ∷ unary_cell kind.Not (part_id (n + 2)) (at_form (part_id (n + 1)) (unsigned 1) (unsigned 1)) 1 (whole y) ∷ [])
      (block (part_id (n + 1)) 1 ∷ []) (value_bits y)
      (fresh_from part_id n 7 (part_id (n + 1) ∷ part_id n ∷ part_id (n + 2) ∷ [])
      (fresh_places part_id n 0 7 (1 ∷ 0 ∷ 2 ∷ []) (part_id (n + 1) ∷ part_id n ∷ part_id (n + 2) ∷ []) (λ i. part_id (n + 1) ∷ part_id (zero_more n i) ∷ part_id (n + 2) ∷ []) refl refl))
      (IsBare-inner_wire (part_id (n + 1)) 1 (omega arith), tt)
      (λ i. block (part_id (n + 1)) 1 ++ (output_bits-unary kind.Not (part_id (n + 2)) (at_form (part_id (n + 1)) (unsigned 1) (unsigned 1)) 1 y.id y.form.width refl i ++ []))
      refl

  of_divided : (k : CellKind) (g : Form) (a b : Value) → output_of k ≡ codes "\\Y" → 1 ≤ g.width → IsOperator n y (divided k n g a b y)
  of_divided k g a b e h =
      IsDrawn-cells part_id n (n + 7) (inner_wire (part_id (n + 1)) 1 ∷ inner_wire (part_id (n + 3)) g.width ∷ inner_wire (part_id (n + 5)) g.width ∷ [])
      (binary_cell kind.Eq (part_id n) (as_form b g) (const_operand g (pos 0)) 1 (one_bit (part_id (n + 1)))
      ∷ mux_cell (part_id (n + 2)) g.width (at_width b.id b.form g.width) (const_spec g.width (pos 1)) (one_bit (part_id (n + 1))) (wire_part (part_id (n + 3)) 0 g.width)
      ∷ binary_cell k (part_id (n + 4)) (as_form a g) (at_form (part_id (n + 3)) g g) g.width (wire_part (part_id (n + 5)) 0 g.width)
      ∷ mux_cell (part_id (n + 6)) y.form.width (at_width (part_id (n + 5)) g y.form.width) (const_spec y.form.width (pos 0)) (one_bit (part_id (n + 1))) (whole y) ∷ [])
      (block (part_id (n + 1)) 1 ∷ block (part_id (n + 3)) g.width ∷ block (part_id (n + 5)) g.width ∷ []) (value_bits y)
      (fresh_from part_id n 7 (part_id (n + 1) ∷ part_id (n + 3) ∷ part_id (n + 5) ∷ part_id n ∷ part_id (n + 2) ∷ part_id (n + 4) ∷ part_id (n + 6) ∷ [])
      (fresh_places part_id n 0 7 (1 ∷ 3 ∷ 5 ∷ 0 ∷ 2 ∷ 4 ∷ 6 ∷ []) (part_id (n + 1) ∷ part_id (n + 3) ∷ part_id (n + 5) ∷ part_id n ∷ part_id (n + 2) ∷ part_id (n + 4) ∷ part_id (n + 6) ∷ [])
      (λ i. part_id (n + 1) ∷ part_id (n + 3) ∷ part_id (n + 5) ∷ part_id (zero_more n i) ∷ part_id (n + 2) ∷ part_id (n + 4) ∷ part_id (n + 6) ∷ []) refl refl))
      (IsBare-inner_wire (part_id (n + 1)) 1 (omega arith), (IsBare-inner_wire (part_id (n + 3)) g.width h, (IsBare-inner_wire (part_id (n + 5)) g.width h, tt)))
      (λ i.
      block (part_id (n + 1)) 1
      ++ (output_bits-mux (part_id (n + 2)) g.width (at_width b.id b.form g.width) (const_spec g.width (pos 1)) (one_bit (part_id (n + 1))) (part_id (n + 3)) g.width i
      ++ (output_bits-binary k (part_id (n + 4)) (as_form a g) (at_form (part_id (n + 3)) g g) g.width (part_id (n + 5)) g.width e i
      ++ (output_bits-mux (part_id (n + 6)) y.form.width (at_width (part_id (n + 5)) g y.form.width) (const_spec y.form.width (pos 0)) (one_bit (part_id (n + 1))) y.id y.form.width i ++ []))))
      refl

  of_magnitude : (g : Form) (a : Value) → 1 ≤ g.width → IsOperator n y (magnitude n g a y)
  of_magnitude g a h =
      IsDrawn-cells part_id n (n + 7) (inner_wire (part_id (n + 1)) 1 ∷ inner_wire (part_id (n + 3)) g.width ∷ [])
      (binary_cell kind.Lt (part_id n) (as_form a g) (const_operand g (pos 0)) 1 (one_bit (part_id (n + 1)))
      ∷ binary_cell kind.Sub (part_id (n + 2)) (const_operand g (pos 0)) (as_form a g) g.width (wire_part (part_id (n + 3)) 0 g.width)
      ∷ mux_cell (part_id (n + 4)) y.form.width (whole a) (at_width (part_id (n + 3)) g y.form.width) (one_bit (part_id (n + 1))) (whole y) ∷ [])
      (block (part_id (n + 1)) 1 ∷ block (part_id (n + 3)) g.width ∷ []) (value_bits y)
      (fresh_from part_id n 7 (part_id (n + 1) ∷ part_id (n + 3) ∷ part_id n ∷ part_id (n + 2) ∷ part_id (n + 4) ∷ [])
      (fresh_places part_id n 0 7 (1 ∷ 3 ∷ 0 ∷ 2 ∷ 4 ∷ []) (part_id (n + 1) ∷ part_id (n + 3) ∷ part_id n ∷ part_id (n + 2) ∷ part_id (n + 4) ∷ [])
      (λ i. part_id (n + 1) ∷ part_id (n + 3) ∷ part_id (zero_more n i) ∷ part_id (n + 2) ∷ part_id (n + 4) ∷ []) refl refl))
      (IsBare-inner_wire (part_id (n + 1)) 1 (omega arith), (IsBare-inner_wire (part_id (n + 3)) g.width h, tt))
      (λ i.
      block (part_id (n + 1)) 1
      ++ (output_bits-binary kind.Sub (part_id (n + 2)) (const_operand g (pos 0)) (as_form a g) g.width (part_id (n + 3)) g.width refl i
      ++ (output_bits-mux (part_id (n + 4)) y.form.width (whole a) (at_width (part_id (n + 3)) g y.form.width) (one_bit (part_id (n + 1))) y.id y.form.width i ++ [])))
      refl

-- a shape that is common to others and to one with bits has bits
common_some : (f g : Form) → 1 ≤ g.width → 1 ≤ (common f g).width
common_some f g h = omega (arith, common_width_right f.signed g.signed f.width g.width)

operated_drawn : (o : Op) (n : ℕ) (a b y : Value) → y.form ≡ form_of o a.form b.form → 1 ≤ y.form.width → IsOperator n y (operated o n (work_form o a.form b.form) a b y)
operated_drawn op.Add n a b y e h = of_binary n y kind.Add _ _ y.form.width refl
operated_drawn op.Sub n a b y e h = of_binary n y kind.Sub _ _ y.form.width refl
operated_drawn op.Neg n a b y e h = of_binary n y kind.Sub _ _ y.form.width refl
operated_drawn op.Mul n a b y e h = of_binary n y kind.Mul _ _ y.form.width refl
operated_drawn op.Div n a b y e h = of_divided n y kind.DivFloor (work_form op.Div a.form b.form) a b refl (common_some (common a.form b.form) (form_of op.Div a.form b.form) (subst (λ (f : Form). 1 ≤ f.width) e h))
operated_drawn op.Mod n a b y e h = of_divided n y kind.ModFloor (work_form op.Mod a.form b.form) a b refl (common_some (common a.form b.form) (form_of op.Mod a.form b.form) (subst (λ (f : Form). 1 ≤ f.width) e h))
operated_drawn op.Abs n a b y e h =
    cond_both a.form.signed (magnitude n (work_form op.Abs a.form b.form) a y) (linked y (whole a)) (IsOperator n y)
    (λ _. of_magnitude n y (work_form op.Abs a.form b.form) a (common_some a.form (form_of op.Abs a.form b.form) (subst (λ (f : Form). 1 ≤ f.width) e h))) (λ _. IsDrawn-linked part_id n (n + 7) y (whole a))
operated_drawn op.Not n a b y e h = of_unary n y kind.Not _ y.form.width refl
operated_drawn op.And n a b y e h = of_binary n y kind.And _ _ y.form.width refl
operated_drawn op.Or n a b y e h = of_binary n y kind.Or _ _ y.form.width refl
operated_drawn op.Xor n a b y e h = of_binary n y kind.Xor _ _ y.form.width refl
operated_drawn op.Eq n a b y e h = of_binary n y kind.Eq _ _ 1 refl
operated_drawn op.Ne n a b y e h = of_unequal n y (work_form op.Ne a.form b.form) a b
operated_drawn op.Lt n a b y e h = of_binary n y kind.Lt _ _ 1 refl
operated_drawn op.Le n a b y e h = of_binary n y kind.Le _ _ 1 refl
operated_drawn op.Gt n a b y e h = of_binary n y kind.Lt _ _ 1 refl
operated_drawn op.Ge n a b y e h = of_binary n y kind.Le _ _ 1 refl
operated_drawn op.Any n a b y e h = of_reduced n y kind.ReduceOr (pos 0) a refl
operated_drawn op.All n a b y e h = of_reduced n y kind.ReduceAnd (pos 1) a refl
operated_drawn op.Parity n a b y e h = of_reduced n y kind.ReduceXor (pos 0) a refl
operated_drawn op.Shl n a b y e h = of_shifted n y kind.Shl a.form.signed a b refl
operated_drawn op.Shr n a b y e h =
    cond_both a.form.signed (shifted kind.Sshr true n a b y) (shifted kind.Shr false n a b y) (IsOperator n y) (λ _. of_shifted n y kind.Sshr true a b refl) (λ _. of_shifted n y kind.Shr false a b refl)

pub operator_drawn : (o : Op) (n : ℕ) (a b y : Value) → y.form ≡ form_of o a.form b.form → 1 ≤ y.form.width → IsDrawn part_id n (n + 7) [] (value_bits y) (operator_drawing o n a b y)
unfolding operator_drawing
operator_drawn o n a b y e h =
    let d : Drawing = operated o n (work_form o a.form b.form) a b y in
    subst (IsOperator n y) (sym (ap (λ (t : Bool). cond t nothing d) (ne_eqb y.form.width 0 (λ z. omega arith)))) (operated_drawn o n a b y e h)
