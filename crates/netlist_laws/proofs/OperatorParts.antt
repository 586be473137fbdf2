-- Where each bit of an operator's wire has a value, so has each bit of the parts of its drawing.
use Rattle.std.specs.Prelude.{◌≡◌, ℕ, ◌+◌, ◌-◌, ◌==◌, ◌<◌, ◌≤◌, nat_lt, cond, Bool, true, false, List, [], ◌∷◌, ◌++◌, length, ℤ, pos}
use Rattle.std.specs.List.{AllByRecursion}
use Rattle.std.proofs.Common.{refl, sym, ◌∙◌, arith, subst, ⊎_elim}
use Rattle.std.proofs.lemmas.Bool.{cond_both, cases_lt, ltb-false}
use Rattle.shape_rules.specs.Forms.{Form, unsigned}
use Rattle.shape_rules.specs.Operators.{work_form}
use Rattle.shape_rules.specs.declared.op.Op.{Op}
use Rattle.shape_rules.specs.declared.op.Op.TheVariants as op
use Rattle.shape_rules.specs.declared.cell.CellKind.{CellKind}
use Rattle.shape_rules.specs.declared.cell.CellKind.TheVariants as kind
use Rattle.rtlil_text.specs.declared.sig.SigPart.{SigPart}
use Rattle.rtlil_text.specs.declared.cell.RtlCell.{RtlCell}
use Rattle.rtlil_text.specs.declared.module.RtlWire.{RtlWire}
use Rattle.rtlil_text.specs.Sources.{spec_bits}
use Rattle.rtlil_text.specs.Cells.{bit_at}
use Rattle.rtlil_text.specs.Meaning.{source_value}
use Rattle.rtlil_text.specs.History.{Wires}
use Rattle.netlist_laws.specs.Ids.{part_id}
use Rattle.netlist_laws.specs.Cells.{Operand, unary_cell, binary_cell, mux_cell}
use Rattle.netlist_laws.specs.Operands.{wire_part, const_spec, filling, at_width, at_form, const_operand}
use Rattle.netlist_laws.specs.Operators.{Value, Drawing, whole, one_bit, as_form, linked, at_least_one, one_cell, unequal, divided, magnitude, reduced, shifted, operated, operator_drawing}
use Rattle.netlist_laws.specs.Carried.{ObeysCell, Obeys}
use Rattle.netlist_laws.proofs.Places.{length-wire_part, length-spec_append}
use Rattle.netlist_laws.proofs.Reading.{length-filling}
use Rattle.netlist_laws.proofs.Whole.{IsWhole}
use Rattle.netlist_laws.proofs.Drawn.{operator_drawing-some, second_cell, third_cell, fourth_cell}
use Rattle.netlist_laws.proofs.Arithmetic.{sub_whole}
use Rattle.netlist_laws.proofs.BitsThere.{IsThere, IsDefined, AreRead, WholeTakes, mux_takes, not_takes, whole_takes, part_there, at_width_there}

-- each bit of these wires has a value
abbrev pub AreDefined : Wires → List RtlWire → Type 0
AreDefined wires ws = AllByRecursion (λ (w : RtlWire). IsDefined wires w.id w.width) ws

length-at_width : (id : List ℕ) (g : Form) (width : ℕ) → length (spec_bits (at_width id g width)) ≡ width
length-at_width id g width =
    let fill : List SigPart = filling id g (width - g.width) in
    cond_both (nat_lt width g.width) (wire_part id 0 width) (fill ++ wire_part id 0 g.width) (λ spec. length (spec_bits spec) ≡ width) (λ e. length-wire_part id 0 width)
    (λ e.
    length-spec_append fill (wire_part id 0 g.width)
    ∙ (let d : length (spec_bits (wire_part id 0 g.width)) + length (spec_bits fill) ≡ width = omega (arith, length-wire_part id 0 g.width, length-filling id g.signed g.width (width - g.width), ltb-false width g.width e) in d))

module _ (wires : Wires) where
  -- ---- wires that are read

  -- an operand of its own shape
  pub form_defined : (id : List ℕ) (g : Form) → AreRead wires (at_width id g g.width) → IsDefined wires id g.width
  form_defined id g h i l = at_width_there wires id g g.width i l l (h i (omega (arith, length-at_width id g g.width)))

  -- one bit
  pub bit_defined : (id : List ℕ) → IsThere (bit_at (source_value wires) (spec_bits (one_bit id)) 0) → IsDefined wires id 1
  bit_defined id t i l = let e : 0 ≡ i = omega arith in subst (λ i. IsThere (wires id i)) e (part_there wires id 1 0 (omega arith) t)

  none_defined : (id : List ℕ) (width : ℕ) → width ≤ 0 → IsDefined wires id width
  none_defined id width e i l = absurd (omega arith)

  -- what a cell makes of whole operands, where one bit of it is read
  read_whole : (k : CellKind) (name : List ℕ) (a b : Operand) (width : ℕ) (id : List ℕ) (g : Form) (n : ℕ) → IsWhole k → 1 ≤ g.width → 1 ≤ n → ObeysCell wires (binary_cell k name a b width (wire_part id 0 g.width))
      → IsThere (bit_at (source_value wires) (spec_bits (at_width id g n)) 0) → WholeTakes wires a.spec b.spec id g.width
  read_whole k name a b width id g n kind some few o t = whole_takes wires k name a b width id g.width 0 kind some o (at_width_there wires id g n 0 few some t)

  -- ---- operators

  unequal_parts : (n : ℕ) (g : Form) (a b y : Value) → 1 ≤ y.form.width → Obeys wires (unequal n g a b y) → IsDefined wires y.id y.form.width → AreDefined wires (unequal n g a b y).wires
  unequal_parts n g a b y some o h =
      let same : RtlCell = binary_cell kind.Eq (part_id n) (as_form a (at_least_one g)) (as_form b (at_least_one g)) 1 (one_bit (part_id (n + 1))) in
      let turn : RtlCell = unary_cell kind.Not (part_id (n + 2)) (at_form (part_id (n + 1)) (unsigned 1) (unsigned 1)) 1 (whole y) in
      (bit_defined (part_id (n + 1)) (not_takes wires (part_id (n + 2)) (at_form (part_id (n + 1)) (unsigned 1) (unsigned 1)) 1 y.id y.form.width 0 some (second_cell wires same turn [] o.cells) (h 0 some)), tt)

  divided_parts : (k : CellKind) (n : ℕ) (g : Form) (a b y : Value) → IsWhole k → 1 ≤ y.form.width → Obeys wires (divided k n g a b y) → IsDefined wires y.id y.form.width → AreDefined wires (divided k n g a b y).wires
  divided_parts k n g a b y makes some o h =
      let is_none = binary_cell kind.Eq (part_id n) (as_form b g) (const_operand g (pos 0)) 1 (one_bit (part_id (n + 1))) in
      let guard = mux_cell (part_id (n + 2)) g.width (at_width b.id b.form g.width) (const_spec g.width (pos 1)) (one_bit (part_id (n + 1))) (wire_part (part_id (n + 3)) 0 g.width) in
      let divide = binary_cell k (part_id (n + 4)) (as_form a g) (at_form (part_id (n + 3)) g g) g.width (wire_part (part_id (n + 5)) 0 g.width) in
      let choose = mux_cell (part_id (n + 6)) y.form.width (at_width (part_id (n + 5)) g y.form.width) (const_spec y.form.width (pos 0)) (one_bit (part_id (n + 1))) (whole y) in
      let t = mux_takes wires (part_id (n + 6)) y.form.width (at_width (part_id (n + 5)) g y.form.width) (const_spec y.form.width (pos 0)) (one_bit (part_id (n + 1))) y.id y.form.width 0 some (fourth_cell wires is_none guard divide choose [] o.cells) (h 0 some) in
      let first = bit_defined (part_id (n + 1)) t.choice in
      ⊎_elim
      (λ (wide : 0 < g.width).
      let w = read_whole k (part_id (n + 4)) (as_form a g) (at_form (part_id (n + 3)) g g) g.width (part_id (n + 5)) g y.form.width makes wide some (third_cell wires is_none guard divide (choose ∷ []) o.cells) t.first in
      (first, (form_defined (part_id (n + 3)) g w.second, (w.output, tt))))
      (λ (none : g.width ≤ 0). (first, (none_defined (part_id (n + 3)) g.width none, (none_defined (part_id (n + 5)) g.width none, tt))))
      (cases_lt 0 g.width)

  magnitude_parts : (n : ℕ) (g : Form) (a y : Value) → 1 ≤ y.form.width → Obeys wires (magnitude n g a y) → IsDefined wires y.id y.form.width → AreDefined wires (magnitude n g a y).wires
  magnitude_parts n g a y some o h =
      let below = binary_cell kind.Lt (part_id n) (as_form a g) (const_operand g (pos 0)) 1 (one_bit (part_id (n + 1))) in
      let opposite = binary_cell kind.Sub (part_id (n + 2)) (const_operand g (pos 0)) (as_form a g) g.width (wire_part (part_id (n + 3)) 0 g.width) in
      let choose = mux_cell (part_id (n + 4)) y.form.width (whole a) (at_width (part_id (n + 3)) g y.form.width) (one_bit (part_id (n + 1))) (whole y) in
      let t = mux_takes wires (part_id (n + 4)) y.form.width (whole a) (at_width (part_id (n + 3)) g y.form.width) (one_bit (part_id (n + 1))) y.id y.form.width 0 some (third_cell wires below opposite choose [] o.cells) (h 0 some) in
      let first = bit_defined (part_id (n + 1)) t.choice in
      ⊎_elim
      (λ (wide : 0 < g.width).
      let w = read_whole kind.Sub (part_id (n + 2)) (const_operand g (pos 0)) (as_form a g) g.width (part_id (n + 3)) g y.form.width sub_whole wide some (second_cell wires below opposite (choose ∷ []) o.cells) t.second in
      (first, (w.output, tt)))
      (λ (none : g.width ≤ 0). (first, (none_defined (part_id (n + 3)) g.width none, tt)))
      (cases_lt 0 g.width)

  -- of two drawings, one of which is there
  pub either_parts : (t : Bool) (d e : Drawing) → AreDefined wires d.wires → (t ≡ false → Obeys wires e → AreDefined wires e.wires) → Obeys wires (cond t d e) → AreDefined wires (cond t d e).wires
  either_parts true d e p q o = p
  either_parts false d e p q o = q refl o

  either_first : (t : Bool) (d e : Drawing) → (Obeys wires d → AreDefined wires d.wires) → AreDefined wires e.wires → Obeys wires (cond t d e) → AreDefined wires (cond t d e).wires
  either_first true d e p q o = p o
  either_first false d e p q o = q

  bare : (t : Bool) (d e : Drawing) → AreDefined wires d.wires → AreDefined wires e.wires → AreDefined wires (cond t d e).wires
  bare t d e p q = cond_both t d e (λ (x : Drawing). AreDefined wires x.wires) (λ _. p) (λ _. q)

  reduced_parts : (k : CellKind) (empty : ℤ) (n : ℕ) (a y : Value) → AreDefined wires (reduced k empty n a y).wires
  reduced_parts k empty n a y = bare (a.form.width == 0) (linked y (const_spec 1 empty)) (one_cell (unary_cell k (part_id n) (as_form a a.form) 1 (whole y))) tt tt

  shifted_parts : (k : CellKind) (signed : Bool) (n : ℕ) (a b y : Value) → AreDefined wires (shifted k signed n a b y).wires
  shifted_parts k signed n a b y =
      bare (b.form.width == 0) (linked y (at_width a.id a.form y.form.width))
      (one_cell (binary_cell k (part_id n) (at_form a.id a.form (record { width = y.form.width; signed = signed })) (as_form b b.form) y.form.width (whole y))) tt tt

  operated_parts : (o : Op) (n : ℕ) (g : Form) (a b y : Value) → 1 ≤ y.form.width → IsDefined wires y.id y.form.width → Obeys wires (operated o n g a b y) → AreDefined wires (operated o n g a b y).wires
  operated_parts op.Add n g a b y some h o = tt
  operated_parts op.Sub n g a b y some h o = tt
  operated_parts op.Neg n g a b y some h o = tt
  operated_parts op.Mul n g a b y some h o = tt
  operated_parts op.Div n g a b y some h o = divided_parts kind.DivFloor n g a b y (record { output = refl; bit = λ value c width i. refl }) some o h
  operated_parts op.Mod n g a b y some h o = divided_parts kind.ModFloor n g a b y (record { output = refl; bit = λ value c width i. refl }) some o h
  operated_parts op.Abs n g a b y some h o = either_first a.form.signed (magnitude n g a y) (linked y (whole a)) (λ p. magnitude_parts n g a y some p h) tt o
  operated_parts op.Not n g a b y some h o = tt
  operated_parts op.And n g a b y some h o = tt
  operated_parts op.Or n g a b y some h o = tt
  operated_parts op.Xor n g a b y some h o = tt
  operated_parts op.Eq n g a b y some h o = tt
  operated_parts op.Ne n g a b y some h o = unequal_parts n g a b y some o h
  operated_parts op.Lt n g a b y some h o = tt
  operated_parts op.Le n g a b y some h o = tt
  operated_parts op.Gt n g a b y some h o = tt
  operated_parts op.Ge n g a b y some h o = tt
  operated_parts op.Any n g a b y some h o = reduced_parts kind.ReduceOr (pos 0) n a y
  operated_parts op.All n g a b y some h o = reduced_parts kind.ReduceAnd (pos 1) n a y
  operated_parts op.Parity n g a b y some h o = reduced_parts kind.ReduceXor (pos 0) n a y
  operated_parts op.Shl n g a b y some h o = shifted_parts kind.Shl a.form.signed n a b y
  operated_parts op.Shr n g a b y some h o =
      bare a.form.signed (shifted kind.Sshr true n a b y) (shifted kind.Shr false n a b y) (shifted_parts kind.Sshr true n a b y) (shifted_parts kind.Shr false n a b y)

  pub operator_parts : (o : Op) (n : ℕ) (a b y : Value) → 1 ≤ y.form.width → IsDefined wires y.id y.form.width → Obeys wires (operator_drawing o n a b y) → AreDefined wires (operator_drawing o n a b y).wires
  operator_parts o n a b y some h obeys =
      let e = operator_drawing-some o n a b y some in
      subst (λ (d : Drawing). AreDefined wires d.wires) (sym e) (operated_parts o n (work_form o a.form b.form) a b y some h (subst (Obeys wires) e obeys))
