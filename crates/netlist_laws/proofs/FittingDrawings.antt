-- The drawing of each operator keeps the rules of a module.
use Rattle.std.proofs.Common.{◌≡◌, ℕ, suc, ◌≤◌, ◌==◌, max, Bool, true, false, List, [], ◌∷◌, refl, sym, ◌∙◌, ap, subst, arith, ℤ, pos}
use Rattle.std.specs.Prelude.{All, Contains, codes}
use Rattle.std.proofs.lemmas.Bool.{cond_both, eqb-false}
use Rattle.std.proofs.lemmas.List.Elements.{All-nil, All-cons}
use Rattle.shape_rules.specs.Forms.{Form, IsForm, common, common_width}
use Rattle.shape_rules.specs.Operators.{form_of, work_form}
use Rattle.shape_rules.specs.Stops.{IsTaken}
use Rattle.shape_rules.specs.declared.op.Op.{Op}
use Rattle.shape_rules.specs.declared.op.Op.TheVariants as op
use Rattle.shape_rules.specs.declared.cell.CellKind.{CellKind}
use Rattle.shape_rules.specs.declared.cell.CellKind.TheVariants as kind
use Rattle.rtlil_text.specs.declared.sig.SigPart.{SigPart}
use Rattle.rtlil_text.specs.declared.cell.RtlCell.{RtlCell}
use Rattle.rtlil_text.specs.declared.module.RtlModule.{RtlModule}
use Rattle.rtlil_text.specs.CellTables.{binary_parameters, unary_parameters, unary_ends, parameters_of, ends_of}
use Rattle.rtlil_text.specs.CellRules.{FitsReduction, FitsArithmetic, FitsComparison, FitsShift}
use Rattle.rtlil_text.specs.Rules.{WireFits, KindFits, CellFits, LinkFits}
use Rattle.netlist_laws.specs.Ids.{part_id}
use Rattle.netlist_laws.specs.Cells.{Operand, flag, unary_cell, binary_cell}
use Rattle.netlist_laws.specs.Operands.{const_spec, at_width, at_form, const_operand}
use Rattle.netlist_laws.specs.Operators.{Value, Drawing, nothing, whole, as_form, one_cell, linked, at_least_one, alike, compared, reduced, shifted, operated, operator_drawing}
use Rattle.netlist_laws.specs.Fits.{HasValue, DrawingFits, FitsOperator}
use Rattle.netlist_laws.proofs.Reading.{HasSign}
use Rattle.netlist_laws.proofs.Drawn.{form_sign}
use Rattle.netlist_laws.proofs.FittingCells.{SpecIs, whole_is, const_is, at_width_is, binary_fits, unary_fits, arithmetic_rules, comparison_rules, shift_rules, not_rules, reduction_rules, linked_fits}

-- the same law for a result with bits
abbrev pub FitsDrawn : Op → Type 0
FitsDrawn o =
    (m : RtlModule) (n : ℕ) (a b y : Value) → IsForm a.form.width a.form.signed → IsForm b.form.width b.form.signed → IsTaken o a.form b.form → y.form ≡ form_of o a.form b.form
    → HasValue m.wires a → HasValue m.wires b → HasValue m.wires y → 1 ≤ y.form.width → All (Contains m.wires) (operated o n (work_form o a.form b.form) a b y).wires
    → DrawingFits m (operated o n (work_form o a.form b.form) a b y)

pub nothing_fits : (m : RtlModule) → DrawingFits m nothing
nothing_fits m = record { wires = All-nil WireFits; cells = All-nil (CellFits m); links = All-nil (LinkFits m) }

pub fits_drawn : (o : Op) → FitsDrawn o → FitsOperator o
unfolding operator_drawing
fits_drawn o law m n a b y p q t e ha hb hy =
    cond_both (y.form.width == 0) nothing (operated o n (work_form o a.form b.form) a b y) (λ (d : Drawing). All (Contains m.wires) d.wires → DrawingFits m d)
    (λ none wires. nothing_fits m)
    (λ some wires. let wide : 1 ≤ y.form.width = omega (arith, eqb-false y.form.width 0 some) in law m n a b y p q t e ha hb hy wide wires)

pub one_fits : (m : RtlModule) (c : RtlCell) → CellFits m c → DrawingFits m (one_cell c)
one_fits m c f = record { wires = All-nil WireFits; cells = All-cons (CellFits m) c [] f (All-nil (CellFits m)); links = All-nil (LinkFits m) }

-- the kinds of two operands
pub record IsBinary (k : CellKind) : Type 0 where
  pub parameters : parameters_of k ≡ binary_parameters
  pub ends : ends_of k ≡ codes "\\A" ∷ codes "\\B" ∷ codes "\\Y" ∷ []

-- the kinds of arithmetic, of comparisons
pub record IsArithmetic (k : CellKind) : Type 0 where
  pub binary : IsBinary k
  pub rules : (m : RtlModule) (c : RtlCell) → FitsArithmetic c → KindFits m c k

pub record IsComparison (k : CellKind) : Type 0 where
  pub binary : IsBinary k
  pub rules : (m : RtlModule) (c : RtlCell) → FitsComparison c → KindFits m c k

pub arithmetic_fits : (m : RtlModule) (k : CellKind) (name : List ℕ) (a b : Operand) (width : ℕ) (y : List SigPart) → IsArithmetic k → SpecIs m a.spec a.form.width → SpecIs m b.spec b.form.width → SpecIs m y width
    → a.form ≡ b.form → a.form.width ≡ width → CellFits m (binary_cell k name a b width y)
arithmetic_fits m k name a b width y kind p q r same wide =
    binary_fits m k name a b width y kind.binary.parameters kind.binary.ends p q r (kind.rules m (binary_cell k name a b width y) (arithmetic_rules m k name a b width y p q r same wide))

pub comparison_fits : (m : RtlModule) (k : CellKind) (name : List ℕ) (a b : Operand) (y : List SigPart) → IsComparison k → SpecIs m a.spec a.form.width → SpecIs m b.spec b.form.width → SpecIs m y 1
    → a.form ≡ b.form → CellFits m (binary_cell k name a b 1 y)
comparison_fits m k name a b y kind p q r same =
    binary_fits m k name a b 1 y kind.binary.parameters kind.binary.ends p q r (kind.rules m (binary_cell k name a b 1 y) (comparison_rules m k name a b y p q r same))

add_kind : IsArithmetic kind.Add
add_kind = record { binary = record { parameters = refl; ends = refl }; rules = λ m c f. f }

pub sub_kind : IsArithmetic kind.Sub
sub_kind = record { binary = record { parameters = refl; ends = refl }; rules = λ m c f. f }

pub mul_kind : IsArithmetic kind.Mul
mul_kind = record { binary = record { parameters = refl; ends = refl }; rules = λ m c f. f }

pub div_kind : IsArithmetic kind.DivFloor
div_kind = record { binary = record { parameters = refl; ends = refl }; rules = λ m c f. f }

pub mod_kind : IsArithmetic kind.ModFloor
mod_kind = record { binary = record { parameters = refl; ends = refl }; rules = λ m c f. f }

pub and_kind : IsArithmetic kind.And
and_kind = record { binary = record { parameters = refl; ends = refl }; rules = λ m c f. f }

pub or_kind : IsArithmetic kind.Or
or_kind = record { binary = record { parameters = refl; ends = refl }; rules = λ m c f. f }

xor_kind : IsArithmetic kind.Xor
xor_kind = record { binary = record { parameters = refl; ends = refl }; rules = λ m c f. f }

pub eq_kind : IsComparison kind.Eq
eq_kind = record { binary = record { parameters = refl; ends = refl }; rules = λ m c f. f }

pub lt_kind : IsComparison kind.Lt
lt_kind = record { binary = record { parameters = refl; ends = refl }; rules = λ m c f. f }

le_kind : IsComparison kind.Le
le_kind = record { binary = record { parameters = refl; ends = refl }; rules = λ m c f. f }

-- ---- one cell of arithmetic

alike_fits : (m : RtlModule) (k : CellKind) (n : ℕ) (g : Form) (a b y : Value) → IsArithmetic k → HasSign a.form → HasSign b.form → HasValue m.wires a → HasValue m.wires b → HasValue m.wires y → g.width ≡ y.form.width → DrawingFits m (alike k n g a b y)
alike_fits m k n g a b y kind s t ha hb hy wide =
    one_fits m (binary_cell k (part_id n) (as_form a g) (as_form b g) y.form.width (whole y))
    (arithmetic_fits m k (part_id n) (as_form a g) (as_form b g) y.form.width (whole y) kind (at_width_is m a.id a.form g.width ha s) (at_width_is m b.id b.form g.width hb t) (whole_is m y hy) refl wide)

-- the widths of work shapes
common_width-same : (s : Bool) (w : ℕ) → common_width s s w w ≡ w
common_width-same true w = omega arith
common_width-same false w = omega arith

common_width-more : (s : Bool) (w : ℕ) → common_width s s w (suc w) ≡ suc w
common_width-more true w = omega arith
common_width-more false w = omega arith

common_width-signed : (s : Bool) (w : ℕ) → common_width s true w (suc w) ≡ suc w
common_width-signed true w = omega arith
common_width-signed false w = omega arith

same_width : (o : Op) (a b y : Form) → y ≡ form_of o a b → (work_form o a b).width ≡ (form_of o a b).width → (work_form o a b).width ≡ y.width
same_width o a b y e w = w ∙ sym (ap (λ (f : Form). f.width) e)

pub fits_add : FitsOperator op.Add
fits_add =
    fits_drawn op.Add (λ m n a b y p q t e ha hb hy some wires.
    alike_fits m kind.Add n (work_form op.Add a.form b.form) a b y add_kind (form_sign a.form p) (form_sign b.form q) ha hb hy
    (same_width op.Add a.form b.form y.form e (common_width-more (common a.form b.form).signed (common a.form b.form).width)))

pub fits_sub : FitsOperator op.Sub
fits_sub =
    fits_drawn op.Sub (λ m n a b y p q t e ha hb hy some wires.
    alike_fits m kind.Sub n (work_form op.Sub a.form b.form) a b y sub_kind (form_sign a.form p) (form_sign b.form q) ha hb hy
    (same_width op.Sub a.form b.form y.form e (common_width-signed (common a.form b.form).signed (common a.form b.form).width)))

pub fits_mul : FitsOperator op.Mul
fits_mul =
    fits_drawn op.Mul (λ m n a b y p q t e ha hb hy some wires.
    alike_fits m kind.Mul n (work_form op.Mul a.form b.form) a b y mul_kind (form_sign a.form p) (form_sign b.form q) ha hb hy (same_width op.Mul a.form b.form y.form e refl))

pub fits_and : FitsOperator op.And
fits_and =
    fits_drawn op.And (λ m n a b y p q t e ha hb hy some wires.
    alike_fits m kind.And n (work_form op.And a.form b.form) a b y and_kind (form_sign a.form p) (form_sign b.form q) ha hb hy
    (same_width op.And a.form b.form y.form e (common_width-same (common a.form b.form).signed (common a.form b.form).width)))

pub fits_or : FitsOperator op.Or
fits_or =
    fits_drawn op.Or (λ m n a b y p q t e ha hb hy some wires.
    alike_fits m kind.Or n (work_form op.Or a.form b.form) a b y or_kind (form_sign a.form p) (form_sign b.form q) ha hb hy
    (same_width op.Or a.form b.form y.form e (common_width-same (common a.form b.form).signed (common a.form b.form).width)))

pub fits_xor : FitsOperator op.Xor
fits_xor =
    fits_drawn op.Xor (λ m n a b y p q t e ha hb hy some wires.
    alike_fits m kind.Xor n (work_form op.Xor a.form b.form) a b y xor_kind (form_sign a.form p) (form_sign b.form q) ha hb hy
    (same_width op.Xor a.form b.form y.form e (common_width-same (common a.form b.form).signed (common a.form b.form).width)))

pub fits_neg : FitsOperator op.Neg
fits_neg =
    fits_drawn op.Neg (λ m n a b y p q t e ha hb hy some wires.
    let g : Form = work_form op.Neg a.form b.form in
    one_fits m (binary_cell kind.Sub (part_id n) (const_operand g (pos 0)) (as_form a g) y.form.width (whole y))
    (arithmetic_fits m kind.Sub (part_id n) (const_operand g (pos 0)) (as_form a g) y.form.width (whole y) sub_kind (const_is m g.width (pos 0)) (at_width_is m a.id a.form g.width ha (form_sign a.form p)) (whole_is m y hy) refl
    (same_width op.Neg a.form b.form y.form e (common_width-signed a.form.signed a.form.width))))

pub fits_not : FitsOperator op.Not
fits_not =
    fits_drawn op.Not (λ m n a b y p q t e ha hb hy some wires.
    let g : Form = work_form op.Not a.form b.form in
    let read = at_width_is m a.id a.form g.width ha (form_sign a.form p) in
    one_fits m (unary_cell kind.Not (part_id n) (as_form a g) y.form.width (whole y))
    (unary_fits m kind.Not (part_id n) (as_form a g) y.form.width (whole y) refl refl read (whole_is m y hy)
    (not_rules m (part_id n) (as_form a g) y.form.width (whole y) read (whole_is m y hy) (same_width op.Not a.form b.form y.form e (common_width-same a.form.signed a.form.width)))))

-- ---- comparisons

-- the whole of a value of one bit
pub one_is : (m : RtlModule) (y : Value) → HasValue m.wires y → y.form.width ≡ 1 → SpecIs m (whole y) 1
one_is m y hy e = subst (λ (w : ℕ). SpecIs m (whole y) w) e (whole_is m y hy)

compared_fits : (m : RtlModule) (k : CellKind) (n : ℕ) (g : Form) (a b y : Value) → IsComparison k → HasSign a.form → HasSign b.form → HasValue m.wires a → HasValue m.wires b → HasValue m.wires y → y.form.width ≡ 1 → DrawingFits m (compared k n g a b y)
compared_fits m k n g a b y kind s t ha hb hy one =
    one_fits m (binary_cell k (part_id n) (as_form a (at_least_one g)) (as_form b (at_least_one g)) 1 (whole y))
    (comparison_fits m k (part_id n) (as_form a (at_least_one g)) (as_form b (at_least_one g)) (whole y) kind (at_width_is m a.id a.form (max 1 g.width) ha s) (at_width_is m b.id b.form (max 1 g.width) hb t) (one_is m y hy one) refl)

pub fits_eq : FitsOperator op.Eq
fits_eq =
    fits_drawn op.Eq (λ m n a b y p q t e ha hb hy some wires.
    compared_fits m kind.Eq n (work_form op.Eq a.form b.form) a b y eq_kind (form_sign a.form p) (form_sign b.form q) ha hb hy (ap (λ (f : Form). f.width) e))

pub fits_lt : FitsOperator op.Lt
fits_lt =
    fits_drawn op.Lt (λ m n a b y p q t e ha hb hy some wires.
    compared_fits m kind.Lt n (work_form op.Lt a.form b.form) a b y lt_kind (form_sign a.form p) (form_sign b.form q) ha hb hy (ap (λ (f : Form). f.width) e))

pub fits_le : FitsOperator op.Le
fits_le =
    fits_drawn op.Le (λ m n a b y p q t e ha hb hy some wires.
    compared_fits m kind.Le n (work_form op.Le a.form b.form) a b y le_kind (form_sign a.form p) (form_sign b.form q) ha hb hy (ap (λ (f : Form). f.width) e))

pub fits_gt : FitsOperator op.Gt
fits_gt =
    fits_drawn op.Gt (λ m n a b y p q t e ha hb hy some wires.
    compared_fits m kind.Lt n (work_form op.Gt a.form b.form) b a y lt_kind (form_sign b.form q) (form_sign a.form p) hb ha hy (ap (λ (f : Form). f.width) e))

pub fits_ge : FitsOperator op.Ge
fits_ge =
    fits_drawn op.Ge (λ m n a b y p q t e ha hb hy some wires.
    compared_fits m kind.Le n (work_form op.Ge a.form b.form) b a y le_kind (form_sign b.form q) (form_sign a.form p) hb ha hy (ap (λ (f : Form). f.width) e))

-- ---- reductions

pub record IsReducing (k : CellKind) : Type 0 where
  pub parameters : parameters_of k ≡ unary_parameters
  pub ends : ends_of k ≡ unary_ends
  pub rules : (m : RtlModule) (c : RtlCell) → FitsReduction c → KindFits m c k

reduced_fits : (m : RtlModule) (k : CellKind) (empty : ℤ) (n : ℕ) (a y : Value) → IsReducing k → HasSign a.form → HasValue m.wires a → HasValue m.wires y → y.form.width ≡ 1 → DrawingFits m (reduced k empty n a y)
reduced_fits m k empty n a y kind s ha hy one =
    let cell = unary_cell k (part_id n) (as_form a a.form) 1 (whole y) in
    let read = at_width_is m a.id a.form a.form.width ha s in
    cond_both (a.form.width == 0) (linked y (const_spec 1 empty)) (one_cell cell) (λ (d : Drawing). DrawingFits m d)
    (λ none. linked_fits m y (const_spec 1 empty) hy (subst (λ (w : ℕ). SpecIs m (const_spec 1 empty) w) (sym one) (const_is m 1 empty)))
    (λ some. one_fits m cell (unary_fits m k (part_id n) (as_form a a.form) 1 (whole y) kind.parameters kind.ends read (one_is m y hy one) (kind.rules m cell (reduction_rules m k (part_id n) (as_form a a.form) (whole y) read (one_is m y hy one)))))

pub fits_any : FitsOperator op.Any
fits_any =
    fits_drawn op.Any (λ m n a b y p q t e ha hb hy some wires.
    reduced_fits m kind.ReduceOr (pos 0) n a y (record { parameters = refl; ends = refl; rules = λ m c f. f }) (form_sign a.form p) ha hy (ap (λ (f : Form). f.width) e))

pub fits_all : FitsOperator op.All
fits_all =
    fits_drawn op.All (λ m n a b y p q t e ha hb hy some wires.
    reduced_fits m kind.ReduceAnd (pos 1) n a y (record { parameters = refl; ends = refl; rules = λ m c f. f }) (form_sign a.form p) ha hy (ap (λ (f : Form). f.width) e))

pub fits_parity : FitsOperator op.Parity
fits_parity =
    fits_drawn op.Parity (λ m n a b y p q t e ha hb hy some wires.
    reduced_fits m kind.ReduceXor (pos 0) n a y (record { parameters = refl; ends = refl; rules = λ m c f. f }) (form_sign a.form p) ha hy (ap (λ (f : Form). f.width) e))

-- ---- shifts

-- the kinds that shift a number of this sign
pub record IsShift (k : CellKind) (signed : Bool) : Type 0 where
  pub binary : IsBinary k
  pub rules : (m : RtlModule) (name : List ℕ) (a b : Operand) (width : ℕ) (y : List SigPart) → a.form.signed ≡ signed → FitsShift (binary_cell k name a b width y) → KindFits m (binary_cell k name a b width y) k

shifted_fits : (m : RtlModule) (k : CellKind) (signed : Bool) (n : ℕ) (a b y : Value) → IsShift k signed → HasSign a.form → HasSign b.form → b.form.signed ≡ false → HasValue m.wires a → HasValue m.wires b → HasValue m.wires y → DrawingFits m (shifted k signed n a b y)
shifted_fits m k signed n a b y kind s t amount ha hb hy =
    let form : Form = record { width = y.form.width; signed = signed } in
    let x : Operand = at_form a.id a.form form in
    let cell = binary_cell k (part_id n) x (as_form b b.form) y.form.width (whole y) in
    let read = at_width_is m a.id a.form y.form.width ha s in
    let by = at_width_is m b.id b.form b.form.width hb t in
    cond_both (b.form.width == 0) (linked y (at_width a.id a.form y.form.width)) (one_cell cell) (λ (d : Drawing). DrawingFits m d)
    (λ none. linked_fits m y (at_width a.id a.form y.form.width) hy read)
    (λ some. one_fits m cell (binary_fits m k (part_id n) x (as_form b b.form) y.form.width (whole y) kind.binary.parameters kind.binary.ends read by (whole_is m y hy)
    (kind.rules m (part_id n) x (as_form b b.form) y.form.width (whole y) refl (shift_rules m k (part_id n) x (as_form b b.form) y.form.width (whole y) read by (whole_is m y hy) refl amount))))

shl_kind : (s : Bool) → IsShift kind.Shl s
shl_kind s = record { binary = record { parameters = refl; ends = refl }; rules = λ m name a b width y e f. f }

shr_kind : IsShift kind.Shr false
shr_kind = record { binary = record { parameters = refl; ends = refl }; rules = λ m name a b width y e f. f }

sshr_kind : IsShift kind.Sshr true
sshr_kind = record { binary = record { parameters = refl; ends = refl }; rules = λ m name a b width y e f. record { shift = f; signed = ap flag e } }

pub fits_shl : FitsOperator op.Shl
fits_shl =
    fits_drawn op.Shl (λ m n a b y p q t e ha hb hy some wires.
    shifted_fits m kind.Shl a.form.signed n a b y (shl_kind a.form.signed) (form_sign a.form p) (form_sign b.form q) t.operand ha hb hy)

pub fits_shr : FitsOperator op.Shr
fits_shr =
    fits_drawn op.Shr (λ m n a b y p q t e ha hb hy some wires.
    cond_both a.form.signed (shifted kind.Sshr true n a b y) (shifted kind.Shr false n a b y) (λ (d : Drawing). DrawingFits m d)
    (λ sign. shifted_fits m kind.Sshr true n a b y sshr_kind (form_sign a.form p) (form_sign b.form q) t.operand ha hb hy)
    (λ sign. shifted_fits m kind.Shr false n a b y shr_kind (form_sign a.form p) (form_sign b.form q) t.operand ha hb hy))
