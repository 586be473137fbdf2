-- Drawings of several cells keep the rules, and so does the drawing of each operator.
use Rattle.std.proofs.Common.{◌≡◌, ℕ, ◌+◌, ◌≤◌, max, List, [], ◌∷◌, refl, sym, ap, subst, arith, pos}
use Rattle.std.specs.Prelude.{All, Contains}
use Rattle.std.proofs.lemmas.Bool.{cond_both}
use Rattle.std.proofs.lemmas.List.Elements.{All-nil, All-head, All-tail, All-from_recursion}
use Rattle.shape_rules.specs.Forms.{Form, unsigned}
use Rattle.shape_rules.specs.Operators.{work_form}
use Rattle.shape_rules.specs.declared.op.Op.{Op}
use Rattle.shape_rules.specs.declared.op.Op.TheVariants as op
use Rattle.shape_rules.specs.declared.cell.CellKind.{CellKind}
use Rattle.shape_rules.specs.declared.cell.CellKind.TheVariants as kind
use Rattle.rtlil_text.specs.declared.module.RtlWire.{RtlWire}
use Rattle.rtlil_text.specs.declared.module.RtlModule.{RtlModule}
use Rattle.rtlil_text.specs.Rules.{WireFits, CellFits, LinkFits}
use Rattle.netlist_laws.specs.Ids.{part_id}
use Rattle.netlist_laws.specs.Operands.{wire_part, const_spec, at_width, at_form, const_operand}
use Rattle.netlist_laws.specs.Operators.{Value, Drawing, inner_wire, whole, one_bit, as_form, linked, at_least_one, unequal, divided, magnitude}
use Rattle.netlist_laws.specs.Fits.{HasWire, HasValue, DrawingFits, FitsOperator}
use Rattle.netlist_laws.proofs.Reading.{HasSign}
use Rattle.netlist_laws.proofs.Drawn.{form_sign}
use Rattle.netlist_laws.proofs.Widths.{common_width_left, common_width_right}
use Rattle.netlist_laws.proofs.BitOperators.{result_within}
use Rattle.netlist_laws.proofs.FittingCells.{SpecIs, wire_is, whole_is, const_is, at_width_is, unary_fits, mux_fits, not_rules, linked_fits, inner_fits, inner_held}
use Rattle.netlist_laws.proofs.FittingDrawings.{fits_drawn, IsArithmetic, arithmetic_fits, comparison_fits, one_is, sub_kind, div_kind, mod_kind, eq_kind, lt_kind, fits_add, fits_sub, fits_neg, fits_mul, fits_and, fits_or, fits_xor, fits_not, fits_eq, fits_lt, fits_le, fits_gt, fits_ge, fits_any, fits_all, fits_parity, fits_shl, fits_shr}

-- ---- the inner wires of a drawing

pub first_held : (m : RtlModule) (id : List ℕ) (width : ℕ) (more : List RtlWire) → All (Contains m.wires) (inner_wire id width ∷ more) → HasWire m.wires id width
first_held m id width more h = inner_held m id width (All-head (Contains m.wires) (inner_wire id width) more h)

pub others_held : (m : RtlModule) (w : RtlWire) (more : List RtlWire) → All (Contains m.wires) (w ∷ more) → All (Contains m.wires) more
others_held m w more h = All-tail (Contains m.wires) w more h

-- all of an inner wire, and it at a width
pub inner_is : (m : RtlModule) (id : List ℕ) (width : ℕ) → HasWire m.wires id width → SpecIs m (wire_part id 0 width) width
inner_is m id width h = wire_is m id 0 width width (λ some. h) (omega arith)

pub inner_at : (m : RtlModule) (id : List ℕ) (g : Form) (width : ℕ) → 1 ≤ g.width → HasWire m.wires id g.width → SpecIs m (at_width id g width) width
inner_at m id g width some h = at_width_is m id g width (λ w. h) (λ sign. some)

-- ---- unequal

unequal_fits : (m : RtlModule) (n : ℕ) (g : Form) (a b y : Value) → HasSign a.form → HasSign b.form → HasValue m.wires a → HasValue m.wires b → HasValue m.wires y → y.form.width ≡ 1
    → All (Contains m.wires) (unequal n g a b y).wires → DrawingFits m (unequal n g a b y)
unequal_fits m n g a b y s t ha hb hy one wires =
    let w : HasWire m.wires (part_id (n + 1)) 1 = first_held m (part_id (n + 1)) 1 [] wires in
    let read = inner_at m (part_id (n + 1)) (unsigned 1) 1 (omega arith) w in
    record {
      wires = All-from_recursion WireFits (unequal n g a b y).wires (inner_fits (part_id (n + 1)) 1 (omega arith), tt);
      cells = All-from_recursion (CellFits m) (unequal n g a b y).cells (
        comparison_fits m kind.Eq (part_id n) (as_form a (at_least_one g)) (as_form b (at_least_one g)) (one_bit (part_id (n + 1))) eq_kind (at_width_is m a.id a.form (max 1 g.width) ha s) (at_width_is m b.id b.form (max 1 g.width) hb t)
            (inner_is m (part_id (n + 1)) 1 w) refl,
        (
          unary_fits m kind.Not (part_id (n + 2)) (at_form (part_id (n + 1)) (unsigned 1) (unsigned 1)) 1 (whole y) refl refl read (one_is m y hy one)
              (not_rules m (part_id (n + 2)) (at_form (part_id (n + 1)) (unsigned 1) (unsigned 1)) 1 (whole y) read (one_is m y hy one) refl),
          tt,
        ),
      );
      links = All-nil (LinkFits m);
    }

pub fits_ne : FitsOperator op.Ne
fits_ne =
    fits_drawn op.Ne (λ m n a b y p q t e ha hb hy some wires.
    unequal_fits m n (work_form op.Ne a.form b.form) a b y (form_sign a.form p) (form_sign b.form q) ha hb hy (ap (λ (f : Form). f.width) e) wires)

-- ---- quotients and remainders

divided_fits : (m : RtlModule) (k : CellKind) (n : ℕ) (g : Form) (a b y : Value) → IsArithmetic k → HasSign a.form → HasSign b.form → HasValue m.wires a → HasValue m.wires b → HasValue m.wires y → 1 ≤ g.width
    → All (Contains m.wires) (divided k n g a b y).wires → DrawingFits m (divided k n g a b y)
divided_fits m k n g a b y arithmetic s t ha hb hy some wires =
    let w : HasWire m.wires (part_id (n + 1)) 1 = first_held m (part_id (n + 1)) 1 (inner_wire (part_id (n + 3)) g.width ∷ inner_wire (part_id (n + 5)) g.width ∷ []) wires in
    let rest = others_held m (inner_wire (part_id (n + 1)) 1) (inner_wire (part_id (n + 3)) g.width ∷ inner_wire (part_id (n + 5)) g.width ∷ []) wires in
    let guarded : HasWire m.wires (part_id (n + 3)) g.width = first_held m (part_id (n + 3)) g.width (inner_wire (part_id (n + 5)) g.width ∷ []) rest in
    let result : HasWire m.wires (part_id (n + 5)) g.width =
    first_held m (part_id (n + 5)) g.width [] (others_held m (inner_wire (part_id (n + 3)) g.width) (inner_wire (part_id (n + 5)) g.width ∷ []) rest) in
    let left = at_width_is m a.id a.form g.width ha s in
    let right = at_width_is m b.id b.form g.width hb t in
    let test = inner_is m (part_id (n + 1)) 1 w in
    record {
      wires = All-from_recursion WireFits (divided k n g a b y).wires (inner_fits (part_id (n + 1)) 1 (omega arith), (inner_fits (part_id (n + 3)) g.width some, (inner_fits (part_id (n + 5)) g.width some, tt)));
      cells = All-from_recursion (CellFits m) (divided k n g a b y).cells (
        comparison_fits m kind.Eq (part_id n) (as_form b g) (const_operand g (pos 0)) (one_bit (part_id (n + 1))) eq_kind right (const_is m g.width (pos 0)) test refl,
        (
          mux_fits m (part_id (n + 2)) g.width (at_width b.id b.form g.width) (const_spec g.width (pos 1)) (one_bit (part_id (n + 1))) (wire_part (part_id (n + 3)) 0 g.width) right (const_is m g.width (pos 1)) test (inner_is m (part_id (n + 3)) g.width guarded),
          (
            arithmetic_fits m k (part_id (n + 4)) (as_form a g) (at_form (part_id (n + 3)) g g) g.width (wire_part (part_id (n + 5)) 0 g.width) arithmetic left (inner_at m (part_id (n + 3)) g g.width some guarded) (inner_is m (part_id (n + 5)) g.width result) refl refl,
            (mux_fits m (part_id (n + 6)) y.form.width (at_width (part_id (n + 5)) g y.form.width) (const_spec y.form.width (pos 0)) (one_bit (part_id (n + 1))) (whole y) (inner_at m (part_id (n + 5)) g y.form.width some result) (const_is m y.form.width (pos 0)) test (whole_is m y hy), tt),
          ),
        ),
      );
      links = All-nil (LinkFits m);
    }

pub fits_div : FitsOperator op.Div
fits_div =
    fits_drawn op.Div (λ m n a b y p q t e ha hb hy some wires.
    let g : Form = work_form op.Div a.form b.form in
    let wide : y.form.width ≤ g.width = result_within op.Div a.form b.form y.form e (common_width_right _ _ _ _) in
    divided_fits m kind.DivFloor n g a b y div_kind (form_sign a.form p) (form_sign b.form q) ha hb hy (omega arith) wires)

pub fits_mod : FitsOperator op.Mod
fits_mod =
    fits_drawn op.Mod (λ m n a b y p q t e ha hb hy some wires.
    let g : Form = work_form op.Mod a.form b.form in
    let wide : y.form.width ≤ g.width = result_within op.Mod a.form b.form y.form e (common_width_right _ _ _ _) in
    divided_fits m kind.ModFloor n g a b y mod_kind (form_sign a.form p) (form_sign b.form q) ha hb hy (omega arith) wires)

-- ---- the size of a number

magnitude_fits : (m : RtlModule) (n : ℕ) (g : Form) (a y : Value) → HasSign a.form → HasValue m.wires a → HasValue m.wires y → y.form.width ≡ a.form.width → 1 ≤ g.width
    → All (Contains m.wires) (magnitude n g a y).wires → DrawingFits m (magnitude n g a y)
magnitude_fits m n g a y s ha hy same some wires =
    let w : HasWire m.wires (part_id (n + 1)) 1 = first_held m (part_id (n + 1)) 1 (inner_wire (part_id (n + 3)) g.width ∷ []) wires in
    let turned : HasWire m.wires (part_id (n + 3)) g.width =
    first_held m (part_id (n + 3)) g.width [] (others_held m (inner_wire (part_id (n + 1)) 1) (inner_wire (part_id (n + 3)) g.width ∷ []) wires) in
    let read = at_width_is m a.id a.form g.width ha s in
    let test = inner_is m (part_id (n + 1)) 1 w in
    record {
      wires = All-from_recursion WireFits (magnitude n g a y).wires (inner_fits (part_id (n + 1)) 1 (omega arith), (inner_fits (part_id (n + 3)) g.width some, tt));
      cells = All-from_recursion (CellFits m) (magnitude n g a y).cells (
        comparison_fits m kind.Lt (part_id n) (as_form a g) (const_operand g (pos 0)) (one_bit (part_id (n + 1))) lt_kind read (const_is m g.width (pos 0)) test refl,
        (
          arithmetic_fits m kind.Sub (part_id (n + 2)) (const_operand g (pos 0)) (as_form a g) g.width (wire_part (part_id (n + 3)) 0 g.width) sub_kind (const_is m g.width (pos 0)) read (inner_is m (part_id (n + 3)) g.width turned) refl refl,
          (
            mux_fits m (part_id (n + 4)) y.form.width (whole a) (at_width (part_id (n + 3)) g y.form.width) (one_bit (part_id (n + 1))) (whole y) (subst (λ (v : ℕ). SpecIs m (whole a) v) (sym same) (whole_is m a ha))
                (inner_at m (part_id (n + 3)) g y.form.width some turned) test (whole_is m y hy),
            tt,
          ),
        ),
      );
      links = All-nil (LinkFits m);
    }

pub fits_abs : FitsOperator op.Abs
fits_abs =
    fits_drawn op.Abs (λ m n a b y p q t e ha hb hy some.
    let g : Form = work_form op.Abs a.form b.form in
    let same : y.form.width ≡ a.form.width = ap (λ (f : Form). f.width) e in
    let wide : a.form.width ≤ g.width = common_width_left _ _ _ _ in
    cond_both a.form.signed (magnitude n g a y) (linked y (whole a)) (λ (d : Drawing). All (Contains m.wires) d.wires → DrawingFits m d)
    (λ sign wires. magnitude_fits m n g a y (form_sign a.form p) ha hy same (omega arith) wires)
    (λ sign wires. linked_fits m y (whole a) hy (subst (λ (v : ℕ). SpecIs m (whole a) v) (sym same) (whole_is m a ha))))

-- ---- all operators

pub fits_operator : (o : Op) → FitsOperator o
fits_operator op.Add = fits_add
fits_operator op.Sub = fits_sub
fits_operator op.Neg = fits_neg
fits_operator op.Mul = fits_mul
fits_operator op.Div = fits_div
fits_operator op.Mod = fits_mod
fits_operator op.Abs = fits_abs
fits_operator op.Not = fits_not
fits_operator op.And = fits_and
fits_operator op.Or = fits_or
fits_operator op.Xor = fits_xor
fits_operator op.Eq = fits_eq
fits_operator op.Ne = fits_ne
fits_operator op.Lt = fits_lt
fits_operator op.Le = fits_le
fits_operator op.Gt = fits_gt
fits_operator op.Ge = fits_ge
fits_operator op.Any = fits_any
fits_operator op.All = fits_all
fits_operator op.Parity = fits_parity
fits_operator op.Shl = fits_shl
fits_operator op.Shr = fits_shr
