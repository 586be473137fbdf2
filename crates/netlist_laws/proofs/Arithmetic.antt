-- Sums, differences, opposites and products.
use Rattle.std.proofs.Common.{◌≡◌, ℕ, [], refl, ap, arith, ℤ, pos, ◌+ℤ◌, ◌-ℤ◌, ◌*ℤ◌, neg_ℤ}
use Rattle.std.specs.Prelude.{Some}
use Rattle.std.proofs.lemmas.Int.{ints}
use Rattle.amh_bits.proofs.InShape.{of_zero}
use Rattle.shape_rules.specs.Forms.{Form}
use Rattle.shape_rules.specs.Operators.{work_form}
use Rattle.shape_rules.specs.declared.op.Op.TheVariants as op
use Rattle.shape_rules.specs.declared.cell.CellKind.{CellKind}
use Rattle.shape_rules.specs.declared.cell.CellKind.TheVariants as kind
use Rattle.shape_rules.proofs.WorkShape.{work_holds_left, work_holds_right}
use Rattle.rtlil_text.specs.Cells.{result_of, sign_read}
use Rattle.rtlil_text.specs.History.{Wires}
use Rattle.netlist_laws.specs.Ids.{part_id}
use Rattle.netlist_laws.specs.Cells.{binary_cell}
use Rattle.netlist_laws.specs.Operands.{const_operand}
use Rattle.netlist_laws.specs.Operators.{Value, as_form, whole, alike}
use Rattle.netlist_laws.specs.Carried.{IsIn, Obeys, MakesOperator}
use Rattle.netlist_laws.proofs.Reading.{HasBits, HasSign, reads_at_width, reads_const}
use Rattle.netlist_laws.proofs.Whole.{IsWhole, signed_cell}
use Rattle.netlist_laws.proofs.Drawn.{makes_bits, form_sign, first_cell}

-- two values at one shape that holds both
pub alike_bits : (wires : Wires) (k : CellKind) (n : ℕ) (g : Form) (a b y : Value) (x z r : ℤ) → IsWhole k → ((s : ℕ) → sign_read k s ≡ s) → HasSign a.form → HasSign b.form
    → IsIn a.form x → IsIn b.form z → IsIn g x → IsIn g z → HasBits wires a.id a.form.width x → HasBits wires b.id b.form.width z → result_of k x z ≡ Some r
    → Obeys wires (alike k n g a b y) → HasBits wires y.id y.form.width r
alike_bits wires k n g a b y x z r kind sign s t f g' fx gz c d makes o =
    signed_cell wires k (part_id n) (as_form a g) (as_form b g) y.form.width y.id y.form.width x z r kind sign
    (reads_at_width wires a.id a.form g.width x s f c) (reads_at_width wires b.id b.form g.width z t g' d) fx gz makes
    (first_cell wires (binary_cell k (part_id n) (as_form a g) (as_form b g) y.form.width (whole y)) [] o.cells)

add_whole : IsWhole kind.Add
add_whole = record { output = refl; bit = λ value c width i. refl }

pub sub_whole : IsWhole kind.Sub
sub_whole = record { output = refl; bit = λ value c width i. refl }

pub mul_whole : IsWhole kind.Mul
mul_whole = record { output = refl; bit = λ value c width i. refl }

pub makes_add : MakesOperator op.Add
makes_add =
    makes_bits op.Add (λ wires n a b y x z p q t e f g c d some o.
    alike_bits wires kind.Add n (work_form op.Add a.form b.form) a b y x z (x +ℤ z) add_whole (λ s. refl) (form_sign a.form p) (form_sign b.form q) f g
    (work_holds_left op.Add a.form b.form q x f) (work_holds_right op.Add a.form b.form refl p z g) c d refl o)

pub makes_sub : MakesOperator op.Sub
makes_sub =
    makes_bits op.Sub (λ wires n a b y x z p q t e f g c d some o.
    alike_bits wires kind.Sub n (work_form op.Sub a.form b.form) a b y x z (x -ℤ z) sub_whole (λ s. refl) (form_sign a.form p) (form_sign b.form q) f g
    (work_holds_left op.Sub a.form b.form q x f) (work_holds_right op.Sub a.form b.form refl p z g) c d refl o)

pub makes_mul : MakesOperator op.Mul
makes_mul =
    makes_bits op.Mul (λ wires n a b y x z p q t e f g c d some o.
    alike_bits wires kind.Mul n (work_form op.Mul a.form b.form) a b y x z (x *ℤ z) mul_whole (λ s. refl) (form_sign a.form p) (form_sign b.form q) f g
    (work_holds_left op.Mul a.form b.form q x f) (work_holds_right op.Mul a.form b.form refl p z g) c d refl o)

-- 0 less a number
pub zero-minus : (x : ℤ) → pos 0 -ℤ x ≡ neg_ℤ x
zero-minus x = omega (arith, ints)

pub makes_neg : MakesOperator op.Neg
makes_neg =
    makes_bits op.Neg (λ wires n a b y x z p q t e f g c d some o.
    let w : Form = work_form op.Neg a.form b.form in
    signed_cell wires kind.Sub (part_id n) (const_operand w (pos 0)) (as_form a w) y.form.width y.id y.form.width (pos 0) x (neg_ℤ x) sub_whole (λ s. refl)
    (reads_const wires w.width (pos 0)) (reads_at_width wires a.id a.form w.width x (form_sign a.form p) f c) (of_zero w.signed w.width) (work_holds_left op.Neg a.form b.form q x f) (ap Some (zero-minus x))
    (first_cell wires (binary_cell kind.Sub (part_id n) (const_operand w (pos 0)) (as_form a w) y.form.width (whole y)) [] o.cells))
