-- The size of a number.
use Rattle.std.proofs.Common.{◌≡◌, ℕ, ◌+◌, ◌≤◌, Bool, true, false, cond, [], ◌∷◌, refl, ap, arith, ℤ, pos, negsuc, neg_ℤ, unsigned_abs}
use Rattle.std.specs.Prelude.{Some, int_lt}
use Rattle.std.proofs.lemmas.Bool.{cond_both, le-ltb}
use Rattle.amh_bits.specs.Patterns.{IsOf}
use Rattle.amh_bits.proofs.InShape.{of_zero}
use Rattle.shape_rules.specs.Forms.{Form}
use Rattle.shape_rules.specs.Operators.{work_form, truth}
use Rattle.shape_rules.specs.declared.op.Op.TheVariants as op
use Rattle.shape_rules.specs.declared.cell.CellKind.TheVariants as kind
use Rattle.shape_rules.proofs.WorkShape.{work_holds_left}
use Rattle.rtlil_text.specs.History.{Wires}
use Rattle.netlist_laws.specs.Ids.{part_id}
use Rattle.netlist_laws.specs.Cells.{binary_cell, mux_cell}
use Rattle.netlist_laws.specs.Operands.{wire_part, at_width, const_operand}
use Rattle.netlist_laws.specs.Operators.{Value, Drawing, as_form, whole, one_bit, linked, magnitude}
use Rattle.netlist_laws.specs.Carried.{IsIn, Obeys, MakesOperator}
use Rattle.netlist_laws.proofs.Reading.{HasBits, HasSign, Reads, reads_low, reads_const, reads_at_width}
use Rattle.netlist_laws.proofs.Whole.{signed_cell}
use Rattle.netlist_laws.proofs.Drawn.{makes_bits, form_sign, first_cell, second_cell, third_cell}
use Rattle.netlist_laws.proofs.Arithmetic.{sub_whole, zero-minus}
use Rattle.netlist_laws.proofs.Bitwise.{mux_cell_bits}
use Rattle.netlist_laws.proofs.Comparisons.{lt_whole}
use Rattle.netlist_laws.proofs.Widths.{common_width_left, reads_narrow, has_equal, linked_bits, one_bit_is}

-- the opposite of a number below 0 is its size
size_is : (x : ℤ) → cond (int_lt x (pos 0)) (neg_ℤ x) x ≡ pos (unsigned_abs x)
size_is (pos n) = ap (λ (t : Bool). cond t (neg_ℤ (pos n)) (pos n)) (le-ltb n 0 (omega arith))
size_is (negsuc n) = refl

unsigned_is : (s : Bool) (w : ℕ) (x : ℤ) → s ≡ false → IsOf s w x → x ≡ pos (unsigned_abs x)
unsigned_is true w x e f = cc
unsigned_is false w (pos n) e f = refl
unsigned_is false w (negsuc n) e f = absurd f

magnitude_bits : (wires : Wires) (n : ℕ) (g : Form) (a y : Value) (x : ℤ) → HasSign a.form → IsIn a.form x → IsIn g x → HasBits wires a.id a.form.width x → y.form.width ≡ a.form.width → y.form.width ≤ g.width
    → Obeys wires (magnitude n g a y) → HasBits wires y.id y.form.width (pos (unsigned_abs x))
magnitude_bits wires n g a y x s f fx c same le o =
    let is_negative = binary_cell kind.Lt (part_id n) (as_form a g) (const_operand g (pos 0)) 1 (one_bit (part_id (n + 1))) in
    let turn = binary_cell kind.Sub (part_id (n + 2)) (const_operand g (pos 0)) (as_form a g) g.width (wire_part (part_id (n + 3)) 0 g.width) in
    let choose = mux_cell (part_id (n + 4)) y.form.width (whole a) (at_width (part_id (n + 3)) g y.form.width) (one_bit (part_id (n + 1))) (whole y) in
    let read = reads_at_width wires a.id a.form g.width x s f c in
    let zero_read = reads_const wires g.width (pos 0) in
    let zero_in = of_zero g.signed g.width in
    let negative : HasBits wires (part_id (n + 1)) 1 (truth (int_lt x (pos 0))) =
    signed_cell wires kind.Lt (part_id n) (as_form a g) (const_operand g (pos 0)) 1 (part_id (n + 1)) 1 x (pos 0) (truth (int_lt x (pos 0))) lt_whole (λ s. refl) read zero_read fx zero_in refl
    (first_cell wires is_negative (turn ∷ choose ∷ []) o.cells) in
    let opposite : HasBits wires (part_id (n + 3)) g.width (neg_ℤ x) =
    signed_cell wires kind.Sub (part_id (n + 2)) (const_operand g (pos 0)) (as_form a g) g.width (part_id (n + 3)) g.width (pos 0) x (neg_ℤ x) sub_whole (λ s. refl) zero_read read zero_in fx (ap Some (zero-minus x))
    (second_cell wires is_negative turn (choose ∷ []) o.cells) in
    let kept : Reads wires (whole a) y.form.width x = rw same (reads_low wires a.id a.form.width a.form.width x (omega arith) c) in
    has_equal wires y.id y.form.width (cond (int_lt x (pos 0)) (neg_ℤ x) x) (pos (unsigned_abs x)) (size_is x)
    (mux_cell_bits wires (part_id (n + 4)) y.form.width (whole a) (at_width (part_id (n + 3)) g y.form.width) (one_bit (part_id (n + 1))) y.id y.form.width (int_lt x (pos 0)) x (neg_ℤ x)
    (one_bit_is wires (part_id (n + 1)) (int_lt x (pos 0)) negative) kept (reads_narrow wires (part_id (n + 3)) g y.form.width (neg_ℤ x) le opposite) (third_cell wires is_negative turn choose [] o.cells))

pub makes_abs : MakesOperator op.Abs
makes_abs =
    makes_bits op.Abs (λ wires n a b y x z p q t e f g c d some.
    let w : Form = work_form op.Abs a.form b.form in
    let same : y.form.width ≡ a.form.width = ap (λ (f : Form). f.width) e in
    let wide : a.form.width ≤ w.width = common_width_left _ _ _ _ in
    cond_both a.form.signed (magnitude n w a y) (linked y (whole a)) (λ (drawing : Drawing). Obeys wires drawing → HasBits wires y.id y.form.width (pos (unsigned_abs x)))
    (λ sign. magnitude_bits wires n w a y x (form_sign a.form p) f (work_holds_left op.Abs a.form b.form q x f) c same (omega arith))
    (λ sign o. has_equal wires y.id y.form.width x (pos (unsigned_abs x)) (unsigned_is a.form.signed a.form.width x sign f)
    (linked_bits wires y (whole a) a.form.width x (reads_low wires a.id a.form.width a.form.width x (omega arith) c) (omega arith) o)))
