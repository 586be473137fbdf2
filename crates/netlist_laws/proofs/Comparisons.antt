-- Comparisons.
use Rattle.std.proofs.Common.{◌≡◌, ℕ, zero, suc, Bool, true, false, ◌&&◌, max, [], refl, sym, ap, arith, ℤ, pos, negsuc, ◌-ℤ◌}
use Rattle.std.specs.Prelude.{Some, int_le, int_lt}
use Rattle.std.proofs.lemmas.Int.{ints}
use Rattle.amh_bits.proofs.InShape.{of_wider}
use Rattle.shape_rules.specs.Forms.{Form}
use Rattle.shape_rules.specs.Operators.{work_form, truth, is_zero, int_same}
use Rattle.shape_rules.specs.declared.op.Op.TheVariants as op
use Rattle.shape_rules.specs.declared.cell.CellKind.{CellKind}
use Rattle.shape_rules.specs.declared.cell.CellKind.TheVariants as kind
use Rattle.shape_rules.proofs.WorkShape.{work_holds_left, work_holds_right}
use Rattle.rtlil_text.specs.Cells.{result_of, sign_read}
use Rattle.rtlil_text.specs.History.{Wires}
use Rattle.netlist_laws.specs.Ids.{part_id}
use Rattle.netlist_laws.specs.Cells.{binary_cell}
use Rattle.netlist_laws.specs.Operators.{Value, as_form, whole, at_least_one, compared}
use Rattle.netlist_laws.specs.Carried.{IsIn, Obeys, MakesOperator}
use Rattle.netlist_laws.proofs.Reading.{HasBits, HasSign, reads_at_width}
use Rattle.netlist_laws.proofs.Whole.{IsWhole, signed_cell}
use Rattle.netlist_laws.proofs.Drawn.{makes_bits, form_sign, first_cell}

-- ---- equal is at most in both directions

pub zero_false : (z : ℤ) → (z ≡ pos 0 → ⊥) → is_zero z ≡ false
zero_false (pos zero) h = absurd (h refl)
zero_false (pos (suc n)) h = refl
zero_false (negsuc n) h = refl

same_by : (x z : ℤ) (t u : Bool) → int_le x z ≡ t → int_le z x ≡ u → is_zero (x -ℤ z) ≡ (t && u)
same_by x z true true e f = let d : x -ℤ z ≡ pos 0 = grind (arith, ints) in ap is_zero d
same_by x z true false e f = zero_false (x -ℤ z) (λ d. grind (arith, ints))
same_by x z false u e f = zero_false (x -ℤ z) (λ d. grind (arith, ints))

pub int_same-le : (x z : ℤ) → (int_le x z && int_le z x) ≡ int_same x z
int_same-le x z = sym (same_by x z (int_le x z) (int_le z x) refl refl)

-- ---- the cells

pub eq_whole : IsWhole kind.Eq
eq_whole = record { output = refl; bit = λ value c width i. refl }

pub lt_whole : IsWhole kind.Lt
lt_whole = record { output = refl; bit = λ value c width i. refl }

le_whole : IsWhole kind.Le
le_whole = record { output = refl; bit = λ value c width i. refl }

pub eq_result : (x z : ℤ) → result_of kind.Eq x z ≡ Some (truth (int_same x z))
eq_result x z = ap (λ t. Some (truth t)) (int_same-le x z)

-- a number of a shape is one of the shape with a bit
pub in_some : (g : Form) (x : ℤ) → IsIn g x → IsIn (at_least_one g) x
in_some g x f = of_wider g.signed g.width (max 1 g.width) x (omega arith) f

pub compared_bits : (wires : Wires) (k : CellKind) (n : ℕ) (g : Form) (a b y : Value) (x z r : ℤ) → IsWhole k → ((s : ℕ) → sign_read k s ≡ s) → HasSign a.form → HasSign b.form
    → IsIn a.form x → IsIn b.form z → IsIn g x → IsIn g z → HasBits wires a.id a.form.width x → HasBits wires b.id b.form.width z → result_of k x z ≡ Some r
    → Obeys wires (compared k n g a b y) → HasBits wires y.id y.form.width r
compared_bits wires k n g a b y x z r kind sign s t f g' fx gz c d makes o =
    signed_cell wires k (part_id n) (as_form a (at_least_one g)) (as_form b (at_least_one g)) 1 y.id y.form.width x z r kind sign
    (reads_at_width wires a.id a.form (max 1 g.width) x s f c) (reads_at_width wires b.id b.form (max 1 g.width) z t g' d) (in_some g x fx) (in_some g z gz) makes
    (first_cell wires (binary_cell k (part_id n) (as_form a (at_least_one g)) (as_form b (at_least_one g)) 1 (whole y)) [] o.cells)

pub makes_eq : MakesOperator op.Eq
makes_eq =
    makes_bits op.Eq (λ wires n a b y x z p q t e f g c d some o.
    compared_bits wires kind.Eq n (work_form op.Eq a.form b.form) a b y x z (truth (int_same x z)) eq_whole (λ s. refl) (form_sign a.form p) (form_sign b.form q) f g
    (work_holds_left op.Eq a.form b.form q x f) (work_holds_right op.Eq a.form b.form refl p z g) c d (eq_result x z) o)

pub makes_lt : MakesOperator op.Lt
makes_lt =
    makes_bits op.Lt (λ wires n a b y x z p q t e f g c d some o.
    compared_bits wires kind.Lt n (work_form op.Lt a.form b.form) a b y x z (truth (int_lt x z)) lt_whole (λ s. refl) (form_sign a.form p) (form_sign b.form q) f g
    (work_holds_left op.Lt a.form b.form q x f) (work_holds_right op.Lt a.form b.form refl p z g) c d refl o)

pub makes_le : MakesOperator op.Le
makes_le =
    makes_bits op.Le (λ wires n a b y x z p q t e f g c d some o.
    compared_bits wires kind.Le n (work_form op.Le a.form b.form) a b y x z (truth (int_le x z)) le_whole (λ s. refl) (form_sign a.form p) (form_sign b.form q) f g
    (work_holds_left op.Le a.form b.form q x f) (work_holds_right op.Le a.form b.form refl p z g) c d refl o)

pub makes_gt : MakesOperator op.Gt
makes_gt =
    makes_bits op.Gt (λ wires n a b y x z p q t e f g c d some o.
    compared_bits wires kind.Lt n (work_form op.Gt a.form b.form) b a y z x (truth (int_lt z x)) lt_whole (λ s. refl) (form_sign b.form q) (form_sign a.form p) g f
    (work_holds_right op.Gt a.form b.form refl p z g) (work_holds_left op.Gt a.form b.form q x f) d c refl o)

pub makes_ge : MakesOperator op.Ge
makes_ge =
    makes_bits op.Ge (λ wires n a b y x z p q t e f g c d some o.
    compared_bits wires kind.Le n (work_form op.Ge a.form b.form) b a y z x (truth (int_le z x)) le_whole (λ s. refl) (form_sign b.form q) (form_sign a.form p) g f
    (work_holds_right op.Ge a.form b.form refl p z g) (work_holds_left op.Ge a.form b.form q x f) d c refl o)
